-- What is known of the fields that links have from their bases.
use Rattle.std.proofs.Common.{◌≡◌, ◌≢◌, ◌⊎◌, inl, inr, ◌<◌, ◌≤◌, ◌+◌, ℕ, zero, suc, true, List, [], ◌∷◌, ◌++◌, length, get_or, set, replicate, Option, Some, None, is_none, IfSome, refl, sym, ap, subst, ◌∙◌, arith}
use Rattle.std.specs.Option.{option_map, option_map_or, unwrap_or}
use Rattle.std.proofs.lemmas.List.{length-append, get_or_append_left, get_or_at, length-set, length-replicate, get_or-set_same, get_or-set_other, get_or-replicate}
use Rattle.merge_model.specs.Members.{Member}
use Rattle.merge_model.specs.Merged.{base_member, down_bases, by_bases, up_over, mtu_over, mac_over}
use Rattle.link_fields.specs.declared.bases.Fields.{Fields}
use Rattle.link_fields.specs.Bases.{ends, Holds, Knows, SuitsWithin, Gives}

module _ {X : Type 0} (rule : Member → Option X → X) (ms : List Member) where
  none_over : (o : Option Member) (s : ℕ) → is_none o ≡ true → option_map (down_bases rule ms s) o ≡ None
  none_over None s h = refl
  none_over (Some b) s h = absurd cc

  each : (k s : ℕ) → ((b : Member) → ends ms k b ≡ true → down_bases rule ms s b ≡ down_bases rule ms k b) → (o : Option Member) → option_map_or (ends ms k) o true ≡ true → option_map (down_bases rule ms s) o ≡ option_map (down_bases rule ms k) o
  each k s later None h = refl
  each k s later (Some b) h = ap Some (later b h)

  -- where the chain of bases ends, looking further down makes no difference
  settled : (k s : ℕ) (m : Member) → ends ms k m ≡ true → k ≤ s → down_bases rule ms s m ≡ down_bases rule ms k m
  settled zero zero m h le = refl
  settled zero (suc s) m h le = ap (rule m) (none_over (base_member ms m) s h)
  settled (suc k) zero m h le = absurd (omega arith)
  settled (suc k) (suc s) m h le = ap (rule m) (each k s (λ b e. settled k s b e (omega arith)) (base_member ms m) h)

  over_within : (n k : ℕ) (m b : Member) → base_member ms m ≡ Some b → ends ms k b ≡ true → k < n → down_bases rule ms n m ≡ rule m (Some (down_bases rule ms n b))
  over_within zero k m b is e lt = absurd (omega arith)
  over_within (suc n) k m b is e lt =
      ap (λ o. rule m (option_map (down_bases rule ms n) o)) is
      ∙ ap (λ x. rule m (Some x)) (settled k n b e (omega arith) ∙ sym (settled k (suc n) b e (omega arith)))

  -- the field of a link over a base whose chain ends
  over : (k : ℕ) (m b : Member) → base_member ms m ≡ Some b → ends ms k b ≡ true → k < length ms → rule m (Some (by_bases rule ms b)) ≡ by_bases rule ms m
  over k m b is e lt = sym (over_within (length ms) k m b is e lt)

  alone_within : (n : ℕ) (m : Member) → base_member ms m ≡ None → rule m None ≡ down_bases rule ms n m
  alone_within zero m is = refl
  alone_within (suc n) m is = ap (λ o. rule m (option_map (down_bases rule ms n) o)) (sym is)

  -- and of one without a base
  alone : (m : Member) → base_member ms m ≡ None → rule m None ≡ by_bases rule ms m
  alone m is = alone_within (length ms) m is

-- the fields of a link without a base
pub holds_alone : (ms : List Member) (m : Member) (fields : Fields) → base_member ms m ≡ None → fields.up ≡ up_over m None → fields.mtu ≡ mtu_over m None → fields.mac ≡ mac_over m None → fields.bases ≡ 0 → Holds ms m fields
holds_alone ms m fields is up mtu mac bases = record {
  suits = record { up = up ∙ alone up_over ms m is; mtu = mtu ∙ alone mtu_over ms m is; mac = mac ∙ alone mac_over ms m is };
  ends = ap (λ n. ends ms n m) bases ∙ ap is_none is;
}

-- and of one over a base of which they are known
pub holds_over : (ms : List Member) (m b : Member) (below fields : Fields) → base_member ms m ≡ Some b → Holds ms b below → below.bases < length ms
    → fields.up ≡ up_over m (Some below.up) → fields.mtu ≡ mtu_over m (Some below.mtu) → fields.mac ≡ mac_over m (Some below.mac) → fields.bases ≡ below.bases + 1 → Holds ms m fields
holds_over ms m b below fields is h lt up mtu mac bases = record {
  suits = record {
    up = up ∙ ap (λ x. up_over m (Some x)) h.suits.up ∙ over up_over ms below.bases m b is h.ends lt;
    mtu = mtu ∙ ap (λ x. mtu_over m (Some x)) h.suits.mtu ∙ over mtu_over ms below.bases m b is h.ends lt;
    mac = mac ∙ ap (λ x. mac_over m (Some x)) h.suits.mac ∙ over mac_over ms below.bases m b is h.ends lt;
  };
  ends =
      let deeper : fields.bases ≡ suc below.bases = omega (arith, bases) in
      ap (λ n. ends ms n m) deeper ∙ ap (λ o. option_map_or (ends ms below.bases) o true) is ∙ h.ends;
}

same_or_other : (i k : ℕ) → (i ≡ k) ⊎ (i ≢ k)
same_or_other i k = grind arith

if_some : {X : Type 0} (P : X → Type 0) (o : Option X) (x : X) → IfSome o P → o ≡ Some x → P x
if_some P (Some y) x h e = subst P (ap (λ o. unwrap_or o y) e) h
if_some P None x h e = absurd cc

-- one more is known
pub one_known : (ms : List Member) (known : List (Option Fields)) (at : ℕ) (found : Option Fields) → Knows ms known → at < length ms
    → IfSome found (λ fields. (d : Member) → Holds ms (get_or ms at d) fields) → Knows ms (set known at found)
one_known ms known at found k lt is = record {
  whole = length-set known at found ∙ k.whole;
  right = λ i fields inside e d. elim (same_or_other i at) [
    | inl same ↦
        let here : found ≡ Some fields = sym (get_or-set_same known at found None (omega (arith, k.whole, lt))) ∙ ap (λ n. get_or (set known at found) n None) (sym same) ∙ e in
        subst (λ n. Holds ms (get_or ms n d) fields) (sym same) (if_some (λ f. (e : Member) → Holds ms (get_or ms at e) f) found fields is here d)
    | inr other ↦ k.right i fields inside (sym (get_or-set_other known at i found None other) ∙ e) d
  ];
}

-- nothing is known at first
pub none_known : (ms : List Member) → Knows ms (replicate (length ms) None)
none_known ms = record {
  whole = length-replicate (length ms) None;
  right = λ i fields inside e d. let wrong : None ≡ Some fields = sym (get_or-replicate (length ms) i None None inside) ∙ e in absurd cc;
}

-- the fields of no links
pub none_given : (ms : List Member) (steps : ℕ) → Gives ms steps 0 []
none_given ms steps = record { whole = refl; right = λ i lt d e. absurd (omega (arith, lt)) }

less_or_same : (i n : ℕ) → i < n + 1 → (i < n) ⊎ (i ≡ n)
less_or_same i n lt = grind arith

-- and of one more
pub one_given : (ms : List Member) (steps at : ℕ) (all : List Fields) (f : Fields) → Gives ms steps at all → ((d : Member) → SuitsWithin ms steps (get_or ms at d) f) → Gives ms steps (at + 1) (all ++ f ∷ [])
one_given ms steps at all f g here = record {
  whole = omega (arith, length-append all (f ∷ []), g.whole);
  right = λ i lt d e. elim (less_or_same i at lt) [
    | inl low ↦ subst (SuitsWithin ms steps (get_or ms i d)) (sym (get_or_append_left all (f ∷ []) e i (omega (arith, low, g.whole)))) (g.right i low d e)
    | inr same ↦
        subst (λ n. SuitsWithin ms steps (get_or ms n d) (get_or (all ++ f ∷ []) n e)) (sym same)
        (subst (SuitsWithin ms steps (get_or ms at d)) (sym (get_or_at all f [] e at g.whole)) (here d))
  ];
}

-- fields that hold are those as far down as there are links
pub held : (ms : List Member) (m : Member) (fields : Fields) → Holds ms m fields → SuitsWithin ms (length ms) m fields
held ms m fields h = record { up = h.suits.up; mtu = h.suits.mtu; mac = h.suits.mac }

same_at : {X : Type 0} (xs : List X) (i : ℕ) (d e : X) → i < length xs → get_or xs i d ≡ get_or xs i e
same_at [] i d e lt = absurd (omega (arith, lt))
same_at (x ∷ xs) zero d e lt = refl
same_at (x ∷ xs) (suc i) d e lt = same_at xs i d e (omega (arith, lt))

-- of one more, as it is found at its place
pub one_given_at : (ms : List Member) (steps at : ℕ) (all : List Fields) (f : Fields) (m : Member) → Gives ms steps at all → at < length ms → m ≡ get_or ms at m → SuitsWithin ms steps m f → Gives ms steps (at + 1) (all ++ f ∷ [])
one_given_at ms steps at all f m g lt is s = one_given ms steps at all f g (λ d. subst (λ x. SuitsWithin ms steps x f) (is ∙ same_at ms at m d lt) s)

-- of one more, of which they were known
pub one_given_known : (ms : List Member) (known : List (Option Fields)) (at : ℕ) (all : List Fields) (f : Fields) → Gives ms (length ms) at all → Knows ms known → at < length ms → get_or known at None ≡ Some f → Gives ms (length ms) (at + 1) (all ++ f ∷ [])
one_given_known ms known at all f g k lt is = one_given ms (length ms) at all f g (λ d. held ms (get_or ms at d) f (k.right at f lt is d))

further : {X : Type 0} (rule : Member → Option X → X) (ms : List Member) (steps : ℕ) (m b : Member) (x : X) → base_member ms m ≡ Some b → x ≡ down_bases rule ms steps b → rule m (Some x) ≡ down_bases rule ms (steps + 1) m
further rule ms steps m b x is e =
    let next : suc steps ≡ steps + 1 = omega arith in
    ap (λ y. rule m (Some y)) e ∙ ap (λ o. rule m (option_map (down_bases rule ms steps) o)) (sym is) ∙ ap (λ n. down_bases rule ms n m) next

-- the fields over those of the base
pub one_further : (ms : List Member) (steps : ℕ) (m b : Member) (below fields : Fields) → base_member ms m ≡ Some b → SuitsWithin ms steps b below
    → fields.up ≡ up_over m (Some below.up) → fields.mtu ≡ mtu_over m (Some below.mtu) → fields.mac ≡ mac_over m (Some below.mac) → SuitsWithin ms (steps + 1) m fields
one_further ms steps m b below fields is s up mtu mac = record {
  up = up ∙ further up_over ms steps m b below.up is s.up;
  mtu = mtu ∙ further mtu_over ms steps m b below.mtu is s.mtu;
  mac = mac ∙ further mac_over ms steps m b below.mac is s.mac;
}

-- without one, how far down is looked makes no difference
pub none_further : (ms : List Member) (steps : ℕ) (m : Member) (fields : Fields) → base_member ms m ≡ None → SuitsWithin ms 0 m fields → SuitsWithin ms steps m fields
none_further ms steps m fields is s = record {
  up = s.up ∙ alone_within up_over ms steps m is;
  mtu = s.mtu ∙ alone_within mtu_over ms steps m is;
  mac = s.mac ∙ alone_within mac_over ms steps m is;
}

-- the fields at the place of a link suit it
pub suits_at : (ms : List Member) (steps count at : ℕ) (all : List Fields) (m : Member) (f : Fields) → Gives ms steps count all → at < count → m ≡ get_or ms at m → f ≡ get_or all at f → SuitsWithin ms steps m f
suits_at ms steps count at all m f g lt is here = subst (λ x. SuitsWithin ms steps x f) (sym is) (subst (SuitsWithin ms steps (get_or ms at m)) (sym here) (g.right at lt m f))
