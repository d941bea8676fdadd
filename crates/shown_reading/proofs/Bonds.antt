-- Sections of bonds.
use Rattle.std.proofs.Common.{◌≡◌, ℕ, Bool, true, false, List, ◌++◌, codes, Option, Some, None, IfSome, Ok, refl}
use Rattle.std.specs.Prelude.{option_map, if◌then◌else◌}
use Rattle.net_model.specs.Options.{is_802_3ad}
use Rattle.net_model.specs.declared.options.BondMode.{BondMode}
use Rattle.net_model.specs.declared.options.BondMode.TheVariants.{BalanceRr, ActiveBackup, BalanceXor, Broadcast, Ieee8023ad, BalanceTlb, BalanceAlb}
use Rattle.net_model.specs.declared.options.BondOpts.{BondOpts}
use Rattle.net_model.specs.declared.options.HashPolicy.{HashPolicy}
use Rattle.net_model.specs.declared.options.HashPolicy.TheVariants.{Layer2, Layer23, Layer34, Encap23, Encap34, VlanSrcmac}
use Rattle.net_model.specs.declared.options.LacpRate.{LacpRate}
use Rattle.net_model.specs.declared.options.LacpRate.TheVariants.{Slow, Fast}
use Rattle.net_search.specs.Ranges.{NameRanges, BondRanges}
use Rattle.net_text.specs.Line.{mode_word, rate_word, policy_word}
use Rattle.net_text.specs.Words.{modes, rates, policies}
use Rattle.document_model.specs.declared.BondEntry.{BondEntry}
use Rattle.document_model.specs.declared.Claim.TheVariants.{To}
use Rattle.doc_tree.specs.Shape.{text, list, mapping, Shapes, Pairs, pairs_of}
use Rattle.show_core.specs.Fields.{Fields, fields, field, field_of, fields_if}
use Rattle.show_core.specs.Fields as show
use Rattle.show_core.specs.Links.{bond_options}
use Rattle.tree_schema.specs.Reading.{given}
use Rattle.tree_schema.specs.Tables.{read_map}
use Rattle.tree_schema.specs.Values.{one_of}
use Rattle.link_schema.specs.Bond.{bond_option_table, bond}
use Rattle.link_schema.specs.Words.{names}
use Rattle.shown_reading.proofs.Values.{u32_reads, claim_reads}

mode_reads : (x : BondMode) → one_of modes (text (mode_word x)) ≡ Ok x
mode_reads BalanceRr = refl
mode_reads ActiveBackup = refl
mode_reads BalanceXor = refl
mode_reads Broadcast = refl
mode_reads Ieee8023ad = refl
mode_reads BalanceTlb = refl
mode_reads BalanceAlb = refl

rate_reads : (x : LacpRate) → one_of rates (text (rate_word x)) ≡ Ok x
rate_reads Slow = refl
rate_reads Fast = refl

policy_reads : (x : HashPolicy) → one_of policies (text (policy_word x)) ≡ Ok x
policy_reads Layer2 = refl
policy_reads Layer23 = refl
policy_reads Layer34 = refl
policy_reads Encap23 = refl
policy_reads Encap34 = refl
policy_reads VlanSrcmac = refl

-- ---- `options`

-- the entry with the mode alone
abbrev with_mode : BondMode → BondEntry
with_mode mode = record { mode = Some mode; primary = None; lacp_rate = None; hash_policy = None; miimon = None; updelay = None; downdelay = None; ports = None }

-- and with the options, of which the rate stands there where it is said to
abbrev with_options : Bool → Option (List ℕ) → BondMode → BondOpts → BondEntry
with_options rated primary mode o = record {
  mode = Some mode;
  primary = option_map To primary;
  lacp_rate = if rated then Some o.lacp_rate else None;
  hash_policy = Some o.hash_policy;
  miimon = Some o.miimon;
  updelay = Some o.updelay;
  downdelay = Some o.downdelay;
  ports = None;
}

abbrev options : Bool → Option (List ℕ) → BondOpts → Fields
options rated primary o =
    field_of (codes "primary") text primary
    ++ fields_if rated (field (codes "lacp_rate") (text (rate_word o.lacp_rate)))
    ++ field (codes "xmit_hash_policy") (text (policy_word o.hash_policy))
    ++ field (codes "miimon") (show.number o.miimon)
    ++ field (codes "updelay") (show.number o.updelay)
    ++ field (codes "downdelay") (show.number o.downdelay)

options_read : (rated : Bool) (primary : Option (List ℕ)) (mode : BondMode) (o : BondOpts) → IfSome primary NameRanges → BondRanges o → read_map bond_option_table (with_mode mode) (fields (options rated primary o)) ≡ given (with_options rated primary mode o)
options_read true (Some p) mode o named r =
    rw (claim_reads p named.named, rate_reads o.lacp_rate, policy_reads o.hash_policy, u32_reads o.miimon r.miimon, u32_reads o.updelay r.updelay, u32_reads o.downdelay r.downdelay) refl
options_read false (Some p) mode o named r =
    rw (claim_reads p named.named, policy_reads o.hash_policy, u32_reads o.miimon r.miimon, u32_reads o.updelay r.updelay, u32_reads o.downdelay r.downdelay) refl
options_read true None mode o named r =
    rw (rate_reads o.lacp_rate, policy_reads o.hash_policy, u32_reads o.miimon r.miimon, u32_reads o.updelay r.updelay, u32_reads o.downdelay r.downdelay) refl
options_read false None mode o named r =
    rw (policy_reads o.hash_policy, u32_reads o.miimon r.miimon, u32_reads o.updelay r.updelay, u32_reads o.downdelay r.downdelay) refl

-- ---- the section

section_reads : (mode : BondMode) (ps : Pairs) (ss : Shapes) (e : BondEntry) (ports : List (List ℕ)) → read_map bond_option_table (with_mode mode) (mapping ps) ≡ given e → names (list ss) ≡ given ports
    → bond (fields (field (codes "mode") (text (mode_word mode)) ++ field (codes "options") (mapping ps) ++ field (codes "port") (list ss))) ≡ given (record e { ports = Some ports })
section_reads mode ps ss e ports h k = rw (mode_reads mode, h, k) refl

-- a bond's section with its options and the list of its ports
pub bond_reads : (mode : BondMode) (o : BondOpts) (ss : Shapes) (ports : List (List ℕ)) → BondRanges o → names (list ss) ≡ given ports
    → bond (fields (field (codes "mode") (text (mode_word mode)) ++ field (codes "options") (fields (bond_options mode o)) ++ field (codes "port") (list ss)))
    ≡ given (record (with_options (is_802_3ad mode) o.primary mode o) { ports = Some ports })
bond_reads mode o ss ports r k =
    section_reads mode (pairs_of (bond_options mode o)) ss (with_options (is_802_3ad mode) o.primary mode o) ports (options_read (is_802_3ad mode) o.primary mode o r.primary r) k
