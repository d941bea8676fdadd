-- The file of a name that a folder gives, and the document that it is read as.
use Rattle.std.proofs.Common.{◌≡◌, ◌∙◌, List, [], ◌∷◌, take, Some, None, refl, sym, ap, subst}
use Rattle.std.specs.Prelude.{Result, Ok, Err}
use Rattle.std.specs.Option.{option_map}
use Rattle.net_model.specs.NetData.{NetData}
use Rattle.document_model.specs.declared.Doc.{Doc}
use Rattle.host_core.specs.Folders.{File, Files, bytes_of}
use Rattle.boot_service.specs.Stops.{pending, IsTakenAs}
use Rattle.boot_service.proofs.lemmas.Pending.{Differ, is_first}
use Rattle.top_model.specs.Orders.{Text, document, read_limit}
use Rattle.top_model.specs.declared.report.Cause.{Cause}
use Rattle.service_run.specs.Documents.{document_of, taken_as, taking, why, why_of}
use Rattle.service_run.specs.Services.{names_of}

-- the first of those that are left has the first name that is left
pub record Heads (name : Text) (names : List Text) (files : Files) : Type 0 where
  pub file : File
  pub rest : List File
  pub is : pending files ≡ file ∷ rest
  pub named : file.name ≡ name
  pub others : names_of rest ≡ names

heads_of : (name : Text) (names : List Text) (files : Files) (fs : List File) → pending files ≡ fs → names_of fs ≡ name ∷ names → Heads name names files
heads_of name names files [] is h = absurd cc
heads_of name names files (f ∷ fs) is h = record { file = f; rest = fs; is = is; named = cc; others = cc }

pub heads : (name : Text) (names : List Text) (files : Files) → names_of (pending files) ≡ name ∷ names → Heads name names files
heads name names files h = heads_of name names files (pending files) refl h

pub none_pending : (fs : List File) → names_of fs ≡ [] → fs ≡ []
none_pending [] h = refl
none_pending (f ∷ fs) h = absurd cc

-- its bytes are those of this name
pub first_bytes : (files : Files) (file : File) (rest : List File) → Differ files → pending files ≡ file ∷ rest → bytes_of file.name files ≡ Some file.bytes
first_bytes files file rest differ is = ap (option_map (λ (f : File). f.bytes)) (is_first files file rest differ is).found

-- so what is read under its name is its document
pub read_first : (name : Text) (files : Files) (file : File) (rest : List File) (answer : Result Doc Cause) → Differ files → pending files ≡ file ∷ rest → file.name ≡ name
    → (all : Text) → bytes_of name files ≡ Some all → document (take read_limit all) ≡ answer → document_of file ≡ answer
read_first name files file rest answer differ is named all found reads =
    let mine : bytes_of name files ≡ Some file.bytes = subst (λ (n : Text). bytes_of n files ≡ Some file.bytes) named (first_bytes files file rest differ is) in
    let two : Some file.bytes ≡ Some all = sym mine ∙ found in
    let one : file.bytes ≡ all = cc in
    ap (λ (bytes : Text). document (take read_limit bytes)) one ∙ reads

pub taken_as_document : (file : File) (doc : Doc) → document_of file ≡ Ok doc → IsTakenAs taking file doc
taken_as_document file doc reads = λ net. ap (taken_as net) reads

-- a file that can't be read is refused on each network, and this is why
pub unread_refused : (net : NetData) (file : File) (cause : Cause) → document_of file ≡ Err cause → taking net file ≡ None
unread_refused net file cause reads = ap (taken_as net) reads

pub unread_why : (net : NetData) (file : File) (cause : Cause) → document_of file ≡ Err cause → cause ≡ why net file
unread_why net file cause reads = sym (ap (why_of net) reads)
