use Rattle.std.proofs.Common.{length}
use Rattle.net_text.proofs.routing.+append_search.Given as goal

abbrev pub decreases-append_search : goal.decreases-append_search
decreases-append_search l = length l.search.now
