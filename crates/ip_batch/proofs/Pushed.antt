-- Lines that are appended piece after piece.
use Rattle.std.proofs.Common.{◌≡◌, ◌∙◌, List, [], ◌++◌, ◌∷◌, Option, Some, None, ap, append_assoc}
use Rattle.std.specs.Prelude.{codes}
use Rattle.std.specs.Fmt.{decimal}
use Rattle.net_model.specs.Address.{Address}
use Rattle.net_model.specs.declared.route.Route.{Route}
use Rattle.net_text.specs.AddrText.{addr_text, prefix_text}
use Rattle.net_text.specs.Line.{gateway_words}
use Rattle.ip_batch.specs.Spelling.{Text, spaced, routing}

seq : (l a b c p g d e t n m k : Text) → l ++ a ++ b ++ c ++ p ++ g ++ d ++ e ++ t ++ n ++ m ++ k ≡ l ++ (a ++ (b ++ (c ++ (p ++ (g ++ (d ++ (e ++ (t ++ (n ++ (m ++ k))))))))))
seq l a b c p g d e t n m k = simp append_assoc

-- four pieces, grouped from the right
pub four : (a p d n : Text) → a ++ p ++ d ++ n ≡ a ++ (p ++ (d ++ n))
four a p d n = simp append_assoc

-- the pieces of a route's line make it
pub routed : (line command : Text) (r : Route) (g : Option Address)
    → line ++ codes "route " ++ command ++ codes " " ++ prefix_text r.dest ++ gateway_words g ++ codes " dev " ++ r.dev ++ codes " table " ++ decimal r.table ++ codes " metric " ++ decimal r.metric
    ≡ line ++ spaced (routing command (record r { gateway = g }))
routed line command r None = seq line (codes "route ") command (codes " ") (prefix_text r.dest) [] (codes " dev ") r.dev (codes " table ") (decimal r.table) (codes " metric ") (decimal r.metric)
routed line command r (Some g) =
    seq line (codes "route ") command (codes " ") (prefix_text r.dest) (codes " via " ++ addr_text g) (codes " dev ") r.dev (codes " table ") (decimal r.table) (codes " metric ") (decimal r.metric)
    ∙ ap (λ (x : Text). line ++ (codes "route " ++ (command ++ (codes " " ++ (prefix_text r.dest ++ x)))))
    (append_assoc (codes " via ") (addr_text g) (codes " dev " ++ (r.dev ++ (codes " table " ++ (decimal r.table ++ (codes " metric " ++ decimal r.metric))))))
