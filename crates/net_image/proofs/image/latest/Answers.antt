use Rattle.std.proofs.Common.{◌∙◌, List, ℕ, sym, ap, subst}
use Rattle.net_image.specs.Form.{whole}
use Rattle.net_image.specs.Image.{lists}
use Rattle.net_image.specs.Reading.{Gives, Fails}
use Rattle.net_image.proofs.Coding.{latest_of, latest_fails}
use Rattle.net_image.proofs.image.latest.Goals as goal

pub returns-in-Ok : goal.returns-in-Ok
returns-in-Ok c =
    subst (Gives (λ net. net) c.net_from.result) (sym (latest_of c.args.bytes.now c.in-Ok.parts (ap (λ (v : List ℕ). whole (lists v) c.args.bytes.now) (sym c.as_slice.ensures) ∙ c.in-Ok.ensures))) c.net_from.ensures

pub returns-in-Err : goal.returns-in-Err
returns-in-Err c = latest_fails c.in-Err.fault c.args.bytes.now (subst (λ (v : List ℕ). Fails c.in-Err.fault (whole (lists v) c.args.bytes.now)) c.as_slice.ensures c.in-Err.ensures)
