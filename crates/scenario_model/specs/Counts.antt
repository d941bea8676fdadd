-- What is counted of a run: of its last network, and of plans.
use Rattle.std.specs.Prelude.{◌≡◌, ℕ, Bool, ◌&&◌, ◌==◌, List, length, codes, eqb, if◌then◌else◌, Ok}
use Rattle.std.specs.List.{count_by, ends_with, sum_by}
use Rattle.std.specs.Option.{unwrap_or}
use Rattle.net_model.specs.NetData.{NetData}
use Rattle.net_model.specs.declared.Link.{Link}
use Rattle.net_model.specs.declared.Route.{Route}
use Rattle.net_model.specs.declared.Call.{Call}
use Rattle.document_model.specs.declared.Doc.{Doc}
use Rattle.merge_model.specs.Kinds.{id_of}
use Rattle.plan_model.specs.Plans.{IsPlan}
use Rattle.merge_model.specs.MergedNet.{merge}
use Rattle.scenario_model.specs.declared.work.Summary.{Summary}

-- the name has two parts with a dot between them, of which the second is `v`
abbrev pub is_two_part : List ℕ → Bool
is_two_part name = ends_with eqb name (codes ".v") && (count_by (λ byte. byte == 46) name == 1)

-- the id of a VLAN of such a name
abbrev pub counted_id : Link → ℕ
counted_id l = if is_two_part l.name then unwrap_or (id_of l.kind) 0 else 0

abbrev pub id_sum : List Link → ℕ
id_sum links = sum_by counted_id links

abbrev pub metric_sum : List Route → ℕ
metric_sum routes = sum_by (λ (r : Route). r.metric) routes

-- what is counted of a network
pub record CountsOf (net : NetData) (summary : Summary) : Type 0 where
  pub links : summary.links ≡ length net.links
  pub ids : summary.ids ≡ id_sum net.links
  pub metrics : summary.metrics ≡ metric_sum net.routes

-- the document makes the second network of the first, and a plan that leads there has so many calls
pub record IsPlanned (doc : Doc) (from to : NetData) (count : ℕ) : Type 0 where
  pub merges : merge from doc ≡ Ok to
  pub calls : List Call
  pub plan : IsPlan from to calls
  pub counted : count ≡ length calls

-- a plan of this document between some networks has so many calls
pub record HasPlan (doc : Doc) (count : ℕ) : Type 0 where
  pub from : NetData
  pub to : NetData
  pub planned : IsPlanned doc from to count
