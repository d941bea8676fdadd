use Rattle.std.proofs.Common.{codes, ◌∙◌, sym, ap}
use Rattle.top_model.specs.Texts.{error_line}
use Rattle.answer_text.proofs.Pieces.{same}
use Rattle.answer_text.proofs.refusals.write_error.Goals as goal

pub returns-in-BadLine : goal.returns-in-BadLine
returns-in-BadLine g c = same g.W.Sink.tells c.numbered_error.result (error_line c.args.cause.now) (g.W.Sink.told c.args.err.now) (g.W.Sink.told c.write_line-in-BadLine.new.sink) c.write_line-in-BadLine.result (c.numbered_error.ensures ∙ sym (ap error_line c.in-BadLine.is)) c.write_line-in-BadLine.ensures

pub returns-in-BatchLine : goal.returns-in-BatchLine
returns-in-BatchLine g c = same g.W.Sink.tells c.numbered_error-in-BatchLine.result (error_line c.args.cause.now) (g.W.Sink.told c.args.err.now) (g.W.Sink.told c.write_line-in-BatchLine.new.sink) c.write_line-in-BatchLine.result (c.numbered_error-in-BatchLine.ensures ∙ sym (ap error_line c.in-BatchLine.is)) c.write_line-in-BatchLine.ensures

pub returns-in-BatchLarge : goal.returns-in-BatchLarge
returns-in-BatchLarge g c = same g.W.Sink.tells (codes "error: batch too large\n") (error_line c.args.cause.now) (g.W.Sink.told c.args.err.now) (g.W.Sink.told c.write_text-in-BatchLarge.new.sink) c.write_text-in-BatchLarge.result (sym (ap error_line c.in-BatchLarge.is)) c.write_text-in-BatchLarge.ensures

pub returns-in-FolderFault : goal.returns-in-FolderFault
returns-in-FolderFault g c = same g.W.Sink.tells (codes "error: folder fault\n") (error_line c.args.cause.now) (g.W.Sink.told c.args.err.now) (g.W.Sink.told c.write_text-in-FolderFault.new.sink) c.write_text-in-FolderFault.result (sym (ap error_line c.in-FolderFault.is)) c.write_text-in-FolderFault.ensures

pub returns-in-Pending : goal.returns-in-Pending
returns-in-Pending g c = same g.W.Sink.tells c.numbered_error-in-Pending.result (error_line c.args.cause.now) (g.W.Sink.told c.args.err.now) (g.W.Sink.told c.write_line-in-Pending.new.sink) c.write_line-in-Pending.result (c.numbered_error-in-Pending.ensures ∙ sym (ap error_line c.in-Pending.is)) c.write_line-in-Pending.ensures

pub returns-in-Unfinished : goal.returns-in-Unfinished
returns-in-Unfinished g c = same g.W.Sink.tells c.timed_error.result (error_line c.args.cause.now) (g.W.Sink.told c.args.err.now) (g.W.Sink.told c.write_line-in-Unfinished.new.sink) c.write_line-in-Unfinished.result (c.timed_error.ensures ∙ sym (ap error_line c.in-Unfinished.is)) c.write_line-in-Unfinished.ensures

pub returns-in-Expired : goal.returns-in-Expired
returns-in-Expired g c = same g.W.Sink.tells c.timed_error-in-Expired.result (error_line c.args.cause.now) (g.W.Sink.told c.args.err.now) (g.W.Sink.told c.write_line-in-Expired.new.sink) c.write_line-in-Expired.result (c.timed_error-in-Expired.ensures ∙ sym (ap error_line c.in-Expired.is)) c.write_line-in-Expired.ensures

pub returns-in-HostFault : goal.returns-in-HostFault
returns-in-HostFault g c = same g.W.Sink.tells c.left_error.result (error_line c.args.cause.now) (g.W.Sink.told c.args.err.now) (g.W.Sink.told c.write_line-in-HostFault.new.sink) c.write_line-in-HostFault.result (c.left_error.ensures ∙ sym (ap error_line c.in-HostFault.is)) c.write_line-in-HostFault.ensures

pub returns-in-NoCheckpoint : goal.returns-in-NoCheckpoint
returns-in-NoCheckpoint g c = same g.W.Sink.tells (codes "error: no checkpoint\n") (error_line c.args.cause.now) (g.W.Sink.told c.args.err.now) (g.W.Sink.told c.write_text-in-NoCheckpoint.new.sink) c.write_text-in-NoCheckpoint.result (sym (ap error_line c.in-NoCheckpoint.is)) c.write_text-in-NoCheckpoint.ensures

pub returns-in-NoSuchName : goal.returns-in-NoSuchName
returns-in-NoSuchName g c = same g.W.Sink.tells (codes "error: no such file\n") (error_line c.args.cause.now) (g.W.Sink.told c.args.err.now) (g.W.Sink.told c.write_text-in-NoSuchName.new.sink) c.write_text-in-NoSuchName.result (sym (ap error_line c.in-NoSuchName.is)) c.write_text-in-NoSuchName.ensures

pub returns-in-ReadFault : goal.returns-in-ReadFault
returns-in-ReadFault g c = same g.W.Sink.tells (codes "error: input not read\n") (error_line c.args.cause.now) (g.W.Sink.told c.args.err.now) (g.W.Sink.told c.write_text-in-ReadFault.new.sink) c.write_text-in-ReadFault.result (sym (ap error_line c.in-ReadFault.is)) c.write_text-in-ReadFault.ensures
