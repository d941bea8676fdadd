use Rattle.std.proofs.Common.{length}
use Rattle.net_text.proofs.routing.+append_servers.Given as goal

abbrev pub decreases-append_servers : goal.decreases-append_servers
decreases-append_servers l = length l.servers.now
