-- What the answer of the merge says: the merged network, of the same devices, or the rule that is broken.
use Rattle.std.proofs.Common.{◌≡◌, true, ap, sym, subst, ◌∙◌, Some, None, Result, Ok, Err}
use Rattle.std.specs.Prelude.{IfOk}
use Rattle.net_model.specs.NetData.{NetData, IsNet, ordered}
use Rattle.net_model.specs.Hardware.{hardware}
use Rattle.document_model.specs.declared.Doc.{Doc}
use Rattle.document_model.specs.declared.Refused.{Refused}
use Rattle.document_model.specs.Entries.{is_document}
use Rattle.merge_model.specs.Answers.{Merges}
use Rattle.merge_model.specs.Merge.{least_refusal, merged}
use Rattle.merge_model.specs.declared.fault.MergeFault.{MergeFault}
use Rattle.merge_model.specs.declared.fault.MergeFault.TheVariants as fault
use Rattle.merge_laws.specs.Laws.{IsMergeable, target}
use Rattle.merge_model.specs.MergedNet.{merge, unless_refused}

abbrev merged_with : NetData → Result NetData Refused
merged_with to = Ok to

merges_to : (net : NetData) (doc : Doc) (to : NetData) → least_refusal net doc ≡ None → to ≡ ordered (merged net doc) → merge net doc ≡ Ok to
unfolding merge
merges_to net doc to none is = ap (unless_refused (ordered (merged net doc))) none ∙ ap merged_with (sym is)

merge_broken : (net : NetData) (doc : Doc) (r : Refused) → least_refusal net doc ≡ Some r → merge net doc ≡ Err r
unfolding merge
merge_broken net doc r is = ap (unless_refused (ordered (merged net doc))) is

module _ (net : NetData) (doc : Doc) where
  pub merged_is : (result : Result NetData MergeFault) → Merges net doc result → IfOk result (λ to. merge net doc ≡ Ok to)
  merged_is (Ok to) m = merges_to net doc to m.0 m.1
  merged_is (Err fault) m = tt

  -- of the same devices
  pub hardware_is : IsNet net → is_document doc ≡ true → ((n : NetData) (d : Doc) → IsMergeable n d → hardware (target n d).links ≡ hardware n.links)
      → (result : Result NetData MergeFault) → Merges net doc result → IfOk result (λ to. hardware net.links ≡ hardware to.links)
  hardware_is built fits law (Ok to) m = sym (ap (λ (n : NetData). hardware n.links) m.1 ∙ law net doc (record { running = built; fits = fits; rules = m.0 }))
  hardware_is built fits law (Err fault) m = tt

  pub refused_is : (r : Refused) (result : Result NetData MergeFault) → result ≡ Err (fault.Refused r) → Merges net doc result → merge net doc ≡ Err r
  refused_is r result is m = merge_broken net doc r (subst (λ (x : Result NetData MergeFault). Merges net doc x) is m)
