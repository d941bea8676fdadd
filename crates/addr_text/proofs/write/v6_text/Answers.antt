use Rattle.addr_text.specs.V6Text.{fields_of}
use Rattle.addr_text.proofs.Canonical.{compressed_canonical}
use Rattle.addr_text.proofs.lemmas.Written.{v6_text-reads}
use Rattle.addr_text.proofs.write.v6_text.Goals as goal

pub returns-in_err-push_compressed-clause-reads_back :
    goal.returns-in_err-push_compressed-clause-reads_back
returns-in_err-push_compressed-clause-reads_back c = v6_text-reads c.args.bits c.ranges.bits.fits

pub returns-clause-reads_back : goal.returns-clause-reads_back
returns-clause-reads_back c = v6_text-reads c.args.bits c.ranges.bits.fits

pub returns-in_err-push_compressed-clause-canonical :
    goal.returns-in_err-push_compressed-clause-canonical
returns-in_err-push_compressed-clause-canonical c = compressed_canonical (fields_of 8 c.args.bits)

pub returns-clause-canonical : goal.returns-clause-canonical
returns-clause-canonical c = compressed_canonical (fields_of 8 c.args.bits)
