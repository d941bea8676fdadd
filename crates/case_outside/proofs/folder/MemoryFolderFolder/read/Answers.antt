use Rattle.std.proofs.Common.{rules, length, ap, ◌∙◌, take, drop, ◌+◌, ◌-◌}
use Rattle.case_outside.proofs.FolderMarks.{reads_on}
use Rattle.case_outside.proofs.folder.MemoryFolderFolder.read.Goals as goal

pub returns-clause-reads : goal.returns-clause-reads
returns-clause-reads c =
    let from = c.args.self.now.from in
    let copied = c.copy_from_slice.ensures.after ∙ ap (λ xs. take (from + c.min-count.result - from) (drop from xs)) c.deref.ensures.value in
    reads_on c.args.self.now.begun.items c.copy_from_slice.new.self _ from (length c.args.buf.now) c.min-count.result c.args.self.now.within (search rules) (search rules) copied
