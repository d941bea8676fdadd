use Rattle.show_core.proofs.pairs.Pairs.put.Goals as goal

pub returns : goal.returns
returns c held form h t = record { is = c.with_pair.ensures held form h.is t }
