-- What is printed of a rollout.
use Rattle.std.specs.Prelude.{ℕ, Bool, true, false, List, ◌++◌, codes, decimal, count_by, flat_map}
use Rattle.rollout_model.specs.Rollout.{Rollout}
use Rattle.rollout_model.specs.Next.{is_fresh}
use Rattle.rollout_model.specs.Steps.{node_of}
use Rattle.rollout_model.specs.declared.node.NodeState.{NodeState}
use Rattle.rollout_model.specs.declared.node.NodeState.TheVariants.{Committed, Restored, Doubt}
use Rattle.rollout_model.specs.declared.node.Event.{Event}
use Rattle.rollout_model.specs.declared.node.Event.TheVariants.{Start, Open, Refused, Unclear, Starved, Good, Bad, Closed, Late, Back}

abbrev pub Text : Type 0
Text = List ℕ

abbrev pub word : Event → Text
word (Start i) = codes "start"
word (Open i) = codes "opened"
word (Refused i) = codes "refused"
word (Unclear i) = codes "unclear"
word (Starved i) = codes "starved"
word (Good i) = codes "good"
word (Bad i) = codes "bad"
word (Closed i) = codes "closed"
word (Late i) = codes "late"
word (Back i) = codes "back"

-- one line for each event
abbrev pub event_line : Event → Text
event_line event = codes "node " ++ decimal (node_of event) ++ codes " " ++ word event ++ codes "\n"

abbrev pub event_lines : List Event → Text
event_lines events = flat_map event_line events

abbrev pub is_committed : NodeState → Bool
is_committed Committed = true
is_committed state = false

abbrev pub is_restored : NodeState → Bool
is_restored Restored = true
is_restored state = false

abbrev pub is_in_doubt : NodeState → Bool
is_in_doubt Doubt = true
is_in_doubt state = false

-- how many nodes are in such a state
abbrev pub counted : (NodeState → Bool) → Rollout → Text
counted is r = decimal (count_by is r.nodes)

-- the line at the end
abbrev pub summary_line : Rollout → Text
summary_line r =
    counted is_committed r ++ codes " committed, "
    ++ counted is_restored r ++ codes " restored, "
    ++ counted is_fresh r ++ codes " not started, "
    ++ counted is_in_doubt r ++ codes " in doubt\n"
