use Rattle.document_model.specs.Entries.{is_document, has_short_doc}
use Rattle.policy_lang.specs.Held.{data_of}
use Rattle.command_laws.proofs.lemmas.Evaluates.{told_as_policy, told_refusal}
use Rattle.command_laws.proofs.lemmas.Named.{first_holds}
use Rattle.plain_commands.proofs.policy.plan_on.Goals as goal

pub plan_doc-requires : goal.plan_doc-requires
plan_doc-requires g c = first_holds (is_document c.in-Ok.doc) (has_short_doc c.in-Ok.doc) c.in-Ok.ensures.right

pub returns-in-Ok-clause-told : goal.returns-in-Ok-clause-told
returns-in-Ok-clause-told g c =
    told_as_policy (data_of c.args.policy.now) c.args.batch c.args.net.now c.in-Ok.doc c.in-Ok.ensures.read g.W.Sink.tells (g.W.Sink.told c.args.out.now) (g.W.Sink.told c.plan_doc.new.out) (g.W.Sink.told c.args.err.now) (g.W.Sink.told c.plan_doc.new.err)
    c.plan_doc.result c.plan_doc.ensures.told

pub returns-in-Err-clause-told : goal.returns-in-Err-clause-told
returns-in-Err-clause-told g c =
    told_refusal (data_of c.args.policy.now) c.args.batch c.args.net.now c.in-Err.cause g.W.Sink.tells (g.W.Sink.told c.args.out.now) (g.W.Sink.told c.tell_refused.new.out) (g.W.Sink.told c.args.err.now) (g.W.Sink.told c.tell_refused.new.err)
    c.tell_refused.result c.in-Err.ensures.read c.tell_refused.ensures.told
