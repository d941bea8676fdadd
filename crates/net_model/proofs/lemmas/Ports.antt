-- Who is among a link's ports.
use Rattle.std.proofs.Common.{◌≡◌, ℕ, Bool, true, false, ◌&&◌, ◌||◌, cond, List, [], ◌∷◌, map, filter, refl}
use Rattle.std.specs.List.{list_any}
use Rattle.net_model.specs.Words.{is_among}
use Rattle.net_model.specs.Links.{is_named, is_port_of, ports_of, named_passes}
use Rattle.net_model.specs.declared.link.Link.{Link}

-- being among the names of those that pass is passing under the name
pub among_filtered : (p : Link → Bool) (name : List ℕ) (links : List Link) → is_among (map (λ (l : Link). l.name) (filter p links)) name ≡ list_any (λ l. is_named name l && p l) links
among_filtered p name [] = refl
among_filtered p name (x ∷ xs) =
    elim (p x) as (λ v. is_among (map (λ (l : Link). l.name) (cond v (x ∷ filter p xs) (filter p xs))) name ≡ (is_named name x && v || list_any (λ l. is_named name l && p l) xs)) [
      | true ↦ rw (and_true (is_named name x), among_filtered p name xs) refl
      | false ↦ rw (and_false (is_named name x)) (among_filtered p name xs)
    ]
  where
    and_true : (b : Bool) → (b && true) ≡ b
    and_true true = refl
    and_true false = refl

    and_false : (b : Bool) → (b && false) ≡ false
    and_false true = refl
    and_false false = refl

-- being among the ports is being a port under the name
pub among_ports : (links : List Link) (controller port : List ℕ) → is_among (ports_of links controller) port ≡ named_passes (is_port_of controller) links port
among_ports links controller port = among_filtered (is_port_of controller) port links
