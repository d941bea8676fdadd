-- What the laws of the merge say of a document that is taken.
use Rattle.std.proofs.Common.{◌≡◌, ◌∙◌, refl, ap, subst, true, Option, Some, None, Ok}
use Rattle.net_model.specs.NetData.{NetData, IsNet}
use Rattle.net_model.specs.Valid.{least_broken}
use Rattle.net_model.proofs.lemmas.Arranged.{ordered_net}
use Rattle.document_model.specs.declared.Doc.{Doc}
use Rattle.document_model.specs.declared.Refused.{Refused}
use Rattle.document_model.specs.Entries.{is_document}
use Rattle.merge_model.specs.Merge.{merged, least_refusal}
use Rattle.merge_laws.specs.Laws.{IsMergeable, GivesAgain, target}
use Rattle.merge_model.specs.MergedNet.{merge, unless_refused}
use Rattle.host_core.specs.Folders.{File}
use Rattle.boot_service.specs.Fold.{Taking, IsTaken}
use Rattle.boot_service.specs.Stops.{IsTakenAs, merged_or}

-- the laws that are used
pub record Laws : Type 0 where
  pub valid : (net : NetData) (doc : Doc) → IsMergeable net doc → least_broken (merged net doc) ≡ None
  pub again : (net : NetData) (doc : Doc) → IsMergeable net doc → GivesAgain net doc

unbroken : (net to : NetData) (doc : Doc) (o : Option Refused) → least_refusal net doc ≡ o → unless_refused (target net doc) o ≡ Ok to → (least_refusal net doc ≡ None) × (target net doc ≡ to)
unbroken net to doc None e h = (e, cc)
unbroken net to doc (Some refused) e h = absurd cc

-- a merge that is done breaks no rule and gives its target
merges : (net to : NetData) (doc : Doc) → merge net doc ≡ Ok to → (least_refusal net doc ≡ None) × (target net doc ≡ to)
unfolding merge
merges net to doc h = unbroken net to doc (least_refusal net doc) refl h

gives : (net : NetData) (doc : Doc) → least_refusal net doc ≡ None → merge net doc ≡ Ok (target net doc)
unfolding merge
gives net doc none = ap (unless_refused (target net doc)) none

-- what a document makes of a network is a network that it makes again of itself
pub merged_again : Laws → (net to : NetData) (doc : Doc) → IsNet net → is_document doc ≡ true → merge net doc ≡ Ok to → IsNet to × (merge to doc ≡ Ok to)
merged_again laws net to doc valid fits h =
    let is = merges net to doc h in
    let mergeable : IsMergeable net doc = record { running = valid; fits = fits; rules = is.0 } in
    let again = laws.again net doc mergeable in (
      subst (λ (n : NetData). IsNet n) is.1 (ordered_net (merged net doc) (laws.valid net doc mergeable)),
      subst (λ (n : NetData). merge n doc ≡ Ok n) is.1 (gives (target net doc) doc again.rules ∙ ap (λ (n : NetData). Ok n) again.same),
    )

-- a file that is this document is taken as it merges
pub file_taken : Laws → (take : Taking File) (file : File) (doc : Doc) (net to : NetData) → IsTakenAs take file doc → IsNet net → is_document doc ≡ true → merge net doc ≡ Ok to → IsTaken take net file to
file_taken laws take file doc net to as_doc valid fits h =
    let both = merged_again laws net to doc valid fits h in record {
      taken = as_doc net ∙ ap merged_or h;
      valid = both.0;
      again = as_doc to ∙ ap merged_or both.1;
    }
