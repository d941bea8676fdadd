use Rattle.std.proofs.Common.{inl, ap, Err}
use Rattle.far_end.proofs.answering.settled_reply.Goals as goal

pub returns-in-Err-Refused : goal.returns-in-Err-Refused
returns-in-Err-Refused g c =
    let same = c.in-Err-Refused.ensures.same c.in-Err-Refused.k (inl (ap Err c.in-Err-Refused.field-0-is)) in
    record {
      maybe = c.call.ensures.maybe;
      cell = c.call.ensures.cell;
      stops = c.call.ensures.stops;
      stops_cell = c.call.ensures.stops_cell;
      outcome = (λ h. c.in-Err-Refused.ensures.refused h c.in-Err-Refused.k (ap Err c.in-Err-Refused.field-0-is), same.0, same.1);
      settled = c.in-Err-Refused.ensures.settled (λ is. let shown = c.in-Err-Refused.field-0-is in absurd (cc));
      cause = record { later = c.call.ensures.cause.later; failed = λ e. absurd (cc) };
    }
