-- A change that is written on named links, one after another.
use Rattle.std.proofs.Common.{◌≡◌, ℕ, Bool, true, false, not, ◌&&◌, ◌||◌, ◌++◌, cond, min, List, [], ◌∷◌, map, refl, sym, ap, ◌∙◌, arith}
use Rattle.std.specs.Prelude.{if◌then◌else◌}
use Rattle.std.proofs.lemmas.List.Folds.{list_any-append}
use Rattle.std.proofs.lemmas.Cmp.{nat_list_eq_equiv}
use Rattle.net_model.specs.Address.{Block}
use Rattle.net_model.specs.Name.{same_bytes}
use Rattle.net_model.specs.Words.{rises, is_among}
use Rattle.net_model.specs.Order.{link_cmp}
use Rattle.net_model.specs.Links.{is_named}
use Rattle.net_model.specs.Edits.{changed, edit_link}
use Rattle.net_model.specs.declared.link.Link.{Link}
use Rattle.net_model.proofs.lemmas.Maps.{rises_map}
use Rattle.kernel_model.specs.UpDown.{lowered, v4_alone}
use Rattle.kernel_model.specs.Settings.{with_mtu}

-- the link with the change where its name is one of these
abbrev pub written_on : (Link → Link) → List (List ℕ) → Link → Link
written_on g names l = if is_among names l.name then g l else l

-- on none at first
pub written_none : (g : Link → Link) (links : List Link) → links ≡ map (written_on g []) links
written_none g [] = refl
written_none g (l ∷ ls) = ap (λ (rest : List Link). l ∷ rest) (written_none g ls)

-- what the change keeps stays
pub written_keeps : {X : Type 0} (get : Link → X) (g : Link → Link) → ((l : Link) → get (g l) ≡ get l) → (names : List (List ℕ)) (l : Link) → get (written_on g names l) ≡ get l
written_keeps get g same names l = elim (is_among names l.name) as (λ v. get (if v then g l else l) ≡ get l) [ true ↦ same l | false ↦ refl ]

-- a change that keeps the name, and that changes nothing where it has been made
module _ (g : Link → Link) (named : (l : Link) → (g l).name ≡ l.name) (again : (l : Link) → g (g l) ≡ g l) where
  written_named : (names : List (List ℕ)) (l : Link) → (written_on g names l).name ≡ l.name
  written_named names l = written_keeps (λ l. l.name) g named names l

  -- links stay sorted
  pub rises_written : (names : List (List ℕ)) (links : List Link) → rises link_cmp links ≡ true → rises link_cmp (map (written_on g names) links) ≡ true
  rises_written names links up = rises_map (written_on g names) (written_named names) links ∙ up

  one_more : (names : List (List ℕ)) (n : List ℕ) (l : Link) → changed n g (written_on g names l) ≡ written_on g (names ++ n ∷ []) l
  one_more names n l =
      ap (λ b. if b then g (written_on g names l) else written_on g names l) (ap (λ (m : List ℕ). same_bytes m n) (written_named names l) ∙ nat_list_eq_equiv.symm l.name n)
      ∙ elim (is_among names l.name) as (λ v. (if same_bytes n l.name then g (if v then g l else l) else (if v then g l else l)) ≡ (if v || (same_bytes n l.name || false) then g l else l)) [
        | true ↦ elim (same_bytes n l.name) as (λ w. (if w then g (g l) else g l) ≡ g l) [ true ↦ again l | false ↦ refl ]
        | false ↦ elim (same_bytes n l.name) as (λ w. (if w then g l else l) ≡ (if w || false then g l else l)) [ true ↦ refl | false ↦ refl ]
      ]
      ∙ sym (ap (λ b. if b then g l else l) (list_any-append (λ m. same_bytes m l.name) names (n ∷ [])))

  -- and on one more after those
  pub written_more : (names : List (List ℕ)) (n : List ℕ) (links : List Link) → edit_link n g (map (written_on g names) links) ≡ map (written_on g (names ++ n ∷ [])) links
  written_more names n [] = refl
  written_more names n (l ∷ ls) =
      ap (λ (x : Link). x ∷ edit_link n g (map (written_on g names) ls)) (one_more names n l) ∙ ap (λ (rest : List Link). written_on g (names ++ n ∷ []) l ∷ rest) (written_more names n ls)

-- ---- a link that goes down

abbrev pub down_link : Link → Link
down_link l = record l { up = false; addrs = v4_alone l.addrs }

pub and_no : (b : Bool) → (b && false) ≡ false
and_no true = refl
and_no false = refl

and_yes : (b : Bool) → (b && true) ≡ b
and_yes true = refl
and_yes false = refl

v4_twice : (addrs : List Block) → v4_alone (v4_alone addrs) ≡ v4_alone addrs
v4_twice [] = refl
v4_twice (b ∷ bs) = elim (not b.addr.v6) as (λ v. not b.addr.v6 ≡ v → v4_alone (cond v (b ∷ v4_alone bs) (v4_alone bs)) ≡ cond v (b ∷ v4_alone bs) (v4_alone bs)) [
  | true ↦ λ e. ap (λ v. cond v (b ∷ v4_alone (v4_alone bs)) (v4_alone (v4_alone bs))) e ∙ ap (λ (rest : List Block). b ∷ rest) (v4_twice bs)
  | false ↦ λ e. v4_twice bs
] refl

-- and goes down once more
pub down_twice : (l : Link) → down_link (down_link l) ≡ down_link l
down_twice l = rw (v4_twice l.addrs) refl

-- those fall on which that is written
pub lowered_as : (names : List (List ℕ)) (l : Link) → written_on down_link names l ≡ lowered (is_among names) l
lowered_as names l = elim (is_among names l.name) as (λ v. (if v then down_link l else l) ≡ record l { up = l.up && not v; addrs = if v then v4_alone l.addrs else l.addrs }) [
  | true ↦ rw (and_no l.up) refl
  | false ↦ rw (and_yes l.up) refl
]

-- ---- a link that gets an MTU

min_twice : (a m : ℕ) → min (min a m) m ≡ min a m
min_twice a m = grind arith

pub mtu_twice : (name : List ℕ) (mtu : ℕ) (l : Link) → with_mtu name mtu true (with_mtu name mtu true l) ≡ with_mtu name mtu true l
mtu_twice name mtu l = elim (is_named name l) as (λ v. (record l { mtu = if v then mtu else min (if v then mtu else min l.mtu mtu) mtu }) ≡ record l { mtu = if v then mtu else min l.mtu mtu }) [
  | true ↦ refl
  | false ↦ ap (λ m. record l { mtu = m }) (min_twice l.mtu mtu)
]
