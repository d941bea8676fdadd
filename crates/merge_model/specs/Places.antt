-- The place where a rule is first broken.
use Rattle.std.specs.Prelude.{ℕ, Bool, List, [], ◌∷◌, Option, Some, None, if◌then◌else◌}
use Rattle.std.specs.List.{list_any}
use Rattle.std.specs.Option.{option_map, option_or, option_and_then}
use Rattle.std.specs.Ordering.{is_lt}
use Rattle.net_model.specs.Order.{link_cmp}
use Rattle.net_model.specs.declared.Link.{Link}
use Rattle.document_model.specs.declared.LinkEntry.{LinkEntry}
use Rattle.document_model.specs.declared.Place.{Place}
use Rattle.document_model.specs.declared.Place.TheVariants.{Link as AtLink, Route as AtRoute}
use Rattle.document_model.specs.declared.Refused.{Refused}
use Rattle.net_model.specs.declared.Route.{Route}
use Rattle.merge_model.specs.Members.{Member}

abbrev pub at_entry : Option LinkEntry → Option Place
at_entry o = option_map (λ e. AtLink e.name) o

abbrev pub at_member : Option Member → Option Place
at_member o = option_map (λ m. AtLink m.name) o

abbrev pub at_link : Option Link → Option Place
at_link o = option_map (λ l. AtLink l.name) o

-- at the position of its entry
abbrev pub at_route : Option (ℕ × Route) → Option Place
at_route o = option_map (λ s. AtRoute s.0) o

-- the first item of the list to which an earlier one is related
abbrev pub first_second : {X : Type 0} → (X → X → Bool) → List X → List X → Option X
first_second R seen [] = None
first_second R seen (x ∷ xs) = if list_any (λ s. R s x) seen then Some x else first_second R (x ∷ seen) xs

-- the second link, where its name is less
abbrev pub lesser : Link → Link → Option Link
lesser l m = if is_lt (link_cmp m l) then Some m else None

-- the link with the least name
abbrev pub least_name : List Link → Option Link
least_name [] = None
least_name (l ∷ ls) = option_or (option_and_then (lesser l) (least_name ls)) (Some l)

abbrev pub at_rule : ℕ → Place → Refused
at_rule rule place = record { rule = rule; which = 0; place = place }

-- the first of these rules that has a place
abbrev pub first_of : (ℕ → Place → Refused) → List (ℕ × Option Place) → Option Refused
first_of refused [] = None
first_of refused ((number, place) ∷ more) = option_or (option_map (refused number) place) (first_of refused more)
