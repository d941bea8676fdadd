use Rattle.std.proofs.Common.{◌≡◌, Bool, true, [], if◌then◌else◌, slice_get, option_copied, sym, ap, ◌∙◌}
use Rattle.std.specs.Option.{option_and_then, unwrap_or}
use Rattle.net_model.specs.Links.{is_bridge}
use Rattle.net_model.specs.Options.{default_port}
use Rattle.document_model.specs.declared.LinkEntry.{LinkEntry}
use Rattle.merge_model.specs.OptionRules.{merge_port}
use Rattle.merge_model.specs.LinkOptions.{if_same_bridge, port_entry}
use Rattle.link_fields.proofs.PortEntries.{entry_at_place}
use Rattle.link_fields.proofs.options.port_under.Goals as goal

pub returns-then-is_bridge : goal.returns-then-is_bridge
returns-then-is_bridge c =
    let bridge : is_bridge c.args.controller.now.kind ≡ true = ap is_bridge (sym c.kind.ensures) ∙ sym c.is_bridge.ensures ∙ c.if-is_bridge.true in
    let current : option_copied c.current_port.result ≡ option_and_then (if_same_bridge c.args.controller.now) c.args.member.now.old =
    c.current_port.ensures ∙ ap (option_and_then (if_same_bridge c.args.controller.now)) c.old.ensures in
    let stated : option_copied c.port_entry.result ≡ option_and_then (port_entry c.args.member.now.name) c.args.controller.now.entry =
    c.port_entry.ensures
    ∙ ap (option_and_then (λ (e : LinkEntry). option_and_then (slice_get (unwrap_or e.bridge.ports [])) c.args.place)) c.entry.ensures
    ∙ entry_at_place c.args.member.now.name c.args.controller.now.kind c.args.controller.now.entry c.args.place bridge c.requires in
    c.merge_port.ensures
    ∙ ap (λ o. merge_port o (option_copied c.port_entry.result)) current
    ∙ ap (merge_port (option_and_then (if_same_bridge c.args.controller.now) c.args.member.now.old)) stated
    ∙ sym (ap (λ (b : Bool). if b then merge_port (option_and_then (if_same_bridge c.args.controller.now) c.args.member.now.old) (option_and_then (port_entry c.args.member.now.name) c.args.controller.now.entry) else default_port) bridge)
