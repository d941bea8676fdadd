-- Of what hangs on a link, only the link and what is above its new MTU change.
use Rattle.std.proofs.Common.{◌≡◌, ℕ, Bool, true, false, ◌&&◌, ◌||◌, ◌++◌, min, nat_lt, List, [], ◌∷◌, map, refl, sym, ap, ◌∙◌, arith}
use Rattle.std.specs.Prelude.{if◌then◌else◌}
use Rattle.std.proofs.lemmas.Bool.Decides.{nat_tests}
use Rattle.std.proofs.lemmas.Cmp.{nat_list_eq_equiv}
use Rattle.std.proofs.lemmas.List.Folds.{list_any-append}
use Rattle.net_model.specs.Name.{same_bytes}
use Rattle.net_model.specs.Words.{is_among}
use Rattle.net_model.specs.Links.{is_named}
use Rattle.net_model.specs.Valid.{names_differ}
use Rattle.net_model.specs.NetData.{NetData, IsNet}
use Rattle.net_model.specs.declared.link.Link.{Link}
use Rattle.net_model.proofs.lemmas.Found.{names_differ-rises}
use Rattle.net_model.proofs.lemmas.ByName.{passes_as, map_by_name}
use Rattle.net_model.proofs.lemmas.Grounded.{found_named}
use Rattle.kernel_model.specs.Words.{is_over}
use Rattle.kernel_model.specs.Settings.{with_mtu, set_mtu}
use Rattle.link_step.specs.declared.hanging.Affected.TheVariants.{Above}
use Rattle.link_step.specs.Hanging.{hangs, hangs_affected, affected_on}
use Rattle.link_step.specs.Clamped.{clamped}
use Rattle.link_step.proofs.Hangers.{among_affected}

-- an MTU that isn't above the new one stays
low_stays : (a m : ℕ) → nat_lt m a ≡ false → min a m ≡ a
low_stays a m h = grind (arith, nat_tests)

named_or_over : (named over above : Bool) → ((named || over) && above || named) ≡ (named || over && above)
named_or_over true over true = refl
named_or_over true over false = refl
named_or_over false true true = refl
named_or_over false true false = refl
named_or_over false false above = refl

-- the named link has the MTU in any case, and a VLAN over it where its own is above
either_over : (name : List ℕ) (mtu : ℕ) (over : Bool) (l : Link) → (if is_named name l || over && nat_lt mtu l.mtu then with_mtu name mtu true l else l) ≡ with_mtu name mtu over l
either_over name mtu over l = elim (is_named name l) as (λ v. is_named name l ≡ v → (if v || over && nat_lt mtu l.mtu then with_mtu name mtu true l else l) ≡ with_mtu name mtu over l) [
  | true ↦ λ e. rw e refl
  | false ↦ λ e. elim over as (λ w. (if w && nat_lt mtu l.mtu then with_mtu name mtu true l else l) ≡ with_mtu name mtu w l) [
    | true ↦ elim (nat_lt mtu l.mtu) as (λ x. nat_lt mtu l.mtu ≡ x → (if x then with_mtu name mtu true l else l) ≡ with_mtu name mtu true l) [
      | true ↦ λ h. refl
      | false ↦ λ h. rw e (ap (λ m. let x : Link = record l { mtu = m } in x) (sym (low_stays l.mtu mtu h)))
    ] refl
    | false ↦ rw e refl
  ]
] refl

or_no : (b : Bool) → (b || false) ≡ b
or_no true = refl
or_no false = refl

pub clamped_all : (net : NetData) → IsNet net → (name : List ℕ) (mtu : ℕ) → map (clamped name mtu (affected_on (Above mtu) net.links name ++ name ∷ [])) net.links ≡ set_mtu name mtu net.links
clamped_all net is name mtu =
    let differ : names_differ net.links ≡ true = names_differ-rises net.links is.in_order.links in
    let over : List (List ℕ) = affected_on (Above mtu) net.links name in
    map_by_name (clamped name mtu (over ++ name ∷ [])) (λ l. with_mtu name mtu (is_over net.links name l) l) net.links differ (λ n l found.
    let own : l.name ≡ n = found_named net.links n l found in
    let above : is_among over l.name ≡ (hangs net.links name l && nat_lt mtu l.mtu) =
    ap (is_among over) own ∙ among_affected (Above mtu) net.links name n ∙ passes_as (hangs_affected (Above mtu) net.links name) net.links n l differ found in
    let named : is_among (name ∷ []) l.name ≡ is_named name l = or_no (same_bytes name l.name) ∙ nat_list_eq_equiv.symm name l.name in
    let all : is_among (over ++ name ∷ []) l.name ≡ (is_named name l || is_over net.links name l && nat_lt mtu l.mtu) =
    list_any-append (λ m. same_bytes m l.name) over (name ∷ [])
    ∙ ap (λ b. b || is_among (name ∷ []) l.name) above
    ∙ ap (λ b. hangs net.links name l && nat_lt mtu l.mtu || b) named
    ∙ named_or_over (is_named name l) (is_over net.links name l) (nat_lt mtu l.mtu) in
    ap (λ b. if b then with_mtu name mtu true l else l) all ∙ either_over name mtu (is_over net.links name l) l)
