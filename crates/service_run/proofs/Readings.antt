-- What was read of a file.
use Rattle.std.proofs.Common.{◌≡◌, ◌∙◌, inl, inr, ◌≤◌, ◌<◌, ◌++◌, ℕ, [], Bool, length, take, Some, refl, sym, ap, subst, arith, append-nil}
use Rattle.std.specs.Prelude.{Result, Ok, Err, Vec}
use Rattle.std.specs.declared.alloc.Global.{Global}
use Rattle.std.proofs.Math.Seq.{take-append_seam}
use Rattle.std.proofs.lemmas.Bool.{cases_lt}
use Rattle.std.proofs.lemmas.List.{take_all}
use Rattle.document_model.specs.declared.Doc.{Doc}
use Rattle.host_core.specs.Folders.{FolderView, bytes_of}
use Rattle.host_core.specs.Stops.{Stays}
use Rattle.host_core.proofs.lemmas.Moments.{follow}
use Rattle.top_model.specs.Orders.{Text, document, read_limit}
use Rattle.top_model.specs.declared.report.Cause.{Cause}
use Rattle.top_model.specs.declared.report.Cause.TheVariants.{DocRefused, BadLine, BatchLine, BatchLarge, NoSuchName, FolderFault, OutOfMemory}
use Rattle.order_reading.specs.Reading.{Answers, itself}
use Rattle.service_run.specs.Reading.{GoesOn, ReadsPiece, Reading, IsFront, ReadsFile, DocumentOutcome, ReadsDocument}

-- nothing is marked in both
pub goes_on : (tells : Type 0) (old mid new : FolderView) → GoesOn tells old mid → GoesOn tells mid new → GoesOn tells old new
goes_on tells old mid new first next = record {
  unmoved = record {
    files = λ t. next.unmoved.files t ∙ first.unmoved.files t;
    stops = follow Stays Stays Stays old.stops mid.stops new.stops first.unmoved.stops next.unmoved.stops (λ r s left same. same) (λ q r s left there one two. two ∙ one);
  };
  later = let a = first.later in let b = next.later in omega (arith, a, b);
}

-- reading begins
pub read_start : (tells : Type 0) (old : FolderView) → GoesOn tells old old → Reading tells old old []
read_start tells old on = record { folder = on; within = omega arith; told = λ t. refl }

-- one piece more was read
pub read_on : (tells : Type 0) (old now new : FolderView) (had bytes : Text) (more : Bool) → Reading tells old now had → ReadsPiece tells had bytes now new (Ok more) → Reading tells old new bytes
read_on tells old now new had bytes more read piece = record {
  folder = goes_on tells old now new read.folder piece.folder;
  within = piece.outcome.within;
  told = λ t. piece.outcome.joined t ∙ read.told t;
}

front_of : (bytes left all : Text) → length bytes ≤ read_limit → bytes ++ left ≡ all → (length bytes < read_limit → left ≡ []) → bytes ≡ take read_limit all
front_of bytes left all within whole ended = elim (cases_lt (length bytes) read_limit) [
  | inl short ↦
      let e : bytes ≡ all = sym (append-nil bytes) ∙ ap (λ (l : Text). bytes ++ l) (sym (ended short)) ∙ whole in
      subst (λ (b : Text). bytes ≡ take read_limit b) e (sym (take_all read_limit bytes within))
  | inr full ↦
      let e : read_limit ≡ length bytes = omega (arith, full, within) in
      sym (take-append_seam bytes left) ∙ ap (λ (n : ℕ). take n (bytes ++ left)) (sym e) ∙ ap (take read_limit) whole
]

-- the loop ended: at the limit, or at the file's end
pub front_read : (tells : Type 0) (name : Text) (first old new : FolderView) (bytes : Text) → (tells → bytes_of name first.files ≡ Some old.left) → Reading tells old new bytes → (length bytes < read_limit → tells → new.left ≡ [])
    → tells → IsFront name first bytes
front_read tells name first old new bytes started read ended t = (old.left, started t, front_of bytes new.left old.left read.within (read.told t) (λ short. ended short t))

-- the file was read
pub file_read : (tells : Type 0) (name : Text) (first old new : FolderView) (bytes : Vec ℕ Global) → GoesOn tells first old → (tells → bytes_of name first.files ≡ Some old.left) → Reading tells old new bytes.items
    → (length bytes.items < read_limit → tells → new.left ≡ []) → ReadsFile tells name first new (Ok bytes)
file_read tells name first old new bytes begun started read ended = record {
  folder = goes_on tells first old new begun read.folder;
  outcome = front_read tells name first old new bytes.items started read ended;
}

-- ---- its document

-- a file that isn't read has no document
pub unread : (tells : Type 0) (name : Text) (old new : FolderView) (cause : Cause) → ReadsFile tells name old new (Err cause) → ReadsDocument tells name old new (Err cause)
unread tells name old new NoSuchName r = record { folder = r.folder; outcome = r.outcome }
unread tells name old new FolderFault r = record { folder = r.folder; outcome = r.outcome }
unread tells name old new OutOfMemory r = record { folder = r.folder; outcome = tt }
unread tells name old new _ r = absurd r.outcome

outcome : (tells : Type 0) (name : Text) (old new : FolderView) (bytes : Text) (result : Result Doc Cause) → (tells → IsFront name old bytes) → Answers itself (document bytes) result → DocumentOutcome tells name old new result
outcome tells name old new bytes (Ok doc) front answers = λ t. let f = front t in (f.0, f.1, ap document (sym f.2) ∙ answers)
outcome tells name old new bytes (Err (DocRefused fault)) front answers = λ t. let f = front t in (f.0, f.1, ap document (sym f.2) ∙ answers)
outcome tells name old new bytes (Err (BadLine n)) front answers = λ t. let f = front t in (f.0, f.1, ap document (sym f.2) ∙ answers)
outcome tells name old new bytes (Err (BatchLine n)) front answers = λ t. let f = front t in (f.0, f.1, ap document (sym f.2) ∙ answers)
outcome tells name old new bytes (Err BatchLarge) front answers = λ t. let f = front t in (f.0, f.1, ap document (sym f.2) ∙ answers)
outcome tells name old new bytes (Err OutOfMemory) front answers = tt
outcome tells name old new bytes (Err _) front answers = absurd answers

-- the bytes that were read are a document, or are refused
pub read_as : (tells : Type 0) (name : Text) (old new : FolderView) (bytes : Vec ℕ Global) (result : Result Doc Cause) → ReadsFile tells name old new (Ok bytes) → Answers itself (document bytes.items) result → ReadsDocument tells name old new result
read_as tells name old new bytes result file answers = record { folder = file.folder; outcome = outcome tells name old new bytes.items result file.outcome answers }
