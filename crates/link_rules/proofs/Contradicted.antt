-- What contradicts a claim on a link.
use Rattle.std.proofs.Common.{◌≡◌, ℕ, Bool, true, false, not, ◌&&◌, ◌||◌, cond, List, [], ◌∷◌, Some, None, refl, sym, ap, ◌∙◌}
use Rattle.std.specs.List.{list_any, find}
use Rattle.std.specs.Option.{option_map_or, unwrap_or}
use Rattle.net_model.specs.Name.{same_bytes}
use Rattle.net_model.proofs.lemmas.Found.{one_name}
use Rattle.document_model.specs.declared.Claim.{Claim}
use Rattle.document_model.specs.declared.Claim.TheVariants.{Nobody, To}
use Rattle.merge_model.specs.Members.{Member}
use Rattle.merge_model.specs.Controllers.{lists}
use Rattle.merge_model.specs.BrokenPorts.{same_claim}
use Rattle.link_members.specs.Listers.{is_rival, rivals}

found_passes : (p r : Member → Bool) (ms : List Member) (f : Member) → find p ms ≡ Some f → r f ≡ true → list_any (λ c. p c && r c) ms ≡ true
found_passes p r [] f e h = absurd cc
found_passes p r (m ∷ ms) f e h = by (p m) refl (λ found. found_passes p r ms f found h)
  where
    by : (v : Bool) → p m ≡ v → (find p ms ≡ Some f → list_any (λ c. p c && r c) ms ≡ true) → ((p m && r m) || list_any (λ c. p c && r c) ms) ≡ true
    by true pm later =
        let here : m ≡ f = ap (λ o. unwrap_or o m) (sym (ap (λ v. cond v (Some m) (find p ms)) pm) ∙ e) in
        rw (pm, ap r here, h) refl
    by false pm later = rw pm (later (sym (ap (λ v. cond v (Some m) (find p ms)) pm) ∙ e))

none_passes : (p r : Member → Bool) (ms : List Member) → find p ms ≡ None → list_any (λ c. p c && r c) ms ≡ false
none_passes p r [] e = refl
none_passes p r (m ∷ ms) e = by (p m) refl (none_passes p r ms)
  where
    by : (v : Bool) → p m ≡ v → (find p ms ≡ None → list_any (λ c. p c && r c) ms ≡ false) → ((p m && r m) || list_any (λ c. p c && r c) ms) ≡ false
    by true pm later = let never : Some m ≡ None = sym (ap (λ v. cond v (Some m) (find p ms)) pm) ∙ e in absurd cc
    by false pm later = rw pm (later (sym (ap (λ v. cond v (Some m) (find p ms)) pm) ∙ e))

-- a list contradicts a claim where the first list does, or where it has a rival
pub contradicted : (ms : List Member) (q : List ℕ) (claim : Claim) (f : Member) → find (λ m. lists m q) ms ≡ Some f
    → list_any (λ c. lists c q && not (same_claim claim (To c.name))) ms ≡ (not (same_claim claim (To f.name)) || list_any (rivals ms q) ms)
contradicted ms q claim f e = by (same_claim claim (To f.name)) refl
  where
    rival_is : (c : Member) → is_rival ms q c.name ≡ not (same_bytes f.name c.name)
    rival_is c = ap (λ o. option_map_or (λ (g : Member). not (same_bytes g.name c.name)) o false) e

    each : (xs : List Member) → ((c : Member) → same_claim claim (To c.name) ≡ same_bytes f.name c.name) → list_any (λ c. lists c q && not (same_claim claim (To c.name))) xs ≡ list_any (rivals ms q) xs
    each [] h = refl
    each (c ∷ cs) h =
        ap (λ b. lists c q && not b || list_any (λ x. lists x q && not (same_claim claim (To x.name))) cs) (h c)
        ∙ ap (λ b. lists c q && b || list_any (λ x. lists x q && not (same_claim claim (To x.name))) cs) (sym (rival_is c))
        ∙ ap (λ b. rivals ms q c || b) (each cs h)

    same : (k : Claim) → same_claim k (To f.name) ≡ true → (c : Member) → same_claim k (To c.name) ≡ same_bytes f.name c.name
    same Nobody h c = absurd cc
    same (To n) h c = ap (λ m. same_bytes m c.name) (one_name n f.name h)

    by : (v : Bool) → same_claim claim (To f.name) ≡ v → list_any (λ c. lists c q && not (same_claim claim (To c.name))) ms ≡ (not v || list_any (rivals ms q) ms)
    by true h = each ms (same claim h)
    by false h = found_passes (λ c. lists c q) (λ c. not (same_claim claim (To c.name))) ms f e (ap not h)

-- where the first list does
pub by_first : (told differs rest : Bool) → told ≡ differs → told ≡ false → not told ≡ (not differs || rest)
by_first told true rest e h = absurd cc
by_first told false rest e h = ap not h

-- none contradicts it where no list names the link
pub uncontradicted : (ms : List Member) (q : List ℕ) (claim : Claim) → find (λ m. lists m q) ms ≡ None → list_any (λ c. lists c q && not (same_claim claim (To c.name))) ms ≡ false
uncontradicted ms q claim e = none_passes (λ c. lists c q) (λ c. not (same_claim claim (To c.name))) ms e
