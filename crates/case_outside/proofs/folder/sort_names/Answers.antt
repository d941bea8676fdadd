use Rattle.std.proofs.lemmas.Map.Lookups.{exact_bytes}
use Rattle.std.proofs.lemmas.Result.{on_ok_weaker}
use Rattle.net_model.specs.Order.{name_cmp}
use Rattle.net_model.proofs.lemmas.Rises.{Climbs-sorted}
use Rattle.net_model.proofs.lemmas.Sorting.{exact_sorted}
use Rattle.case_outside.proofs.FolderMarks.{name_cmp_total}
use Rattle.case_outside.proofs.folder.sort_names.Goals as goal

pub returns : goal.returns
returns c = on_ok_weaker c.sort.result
    (λ up. exact_sorted name_cmp name_cmp_total exact_bytes c.args.names.now.items c.sort.new.self.items c.sort.ensures.permutation (Climbs-sorted name_cmp name_cmp_total c.sort.new.self.items up))
    c.sort.ensures.sorted
