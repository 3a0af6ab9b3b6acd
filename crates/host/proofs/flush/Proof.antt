-- `host::flush` meets its contract, by the law of `Lent0.antt`, at the theorem of the core's `flush`.
-- Assumes nothing.
use contract.Running.{tables, tables_of}
use denote.Triple.Spec.{triple_of}
use denote.Triple.Table.{entered}
use Rattle.mmu.specs.Calls.{flush_of}
use Rattle.mmu.proofs.flush.Symbol.{symbol as #core}
use Rattle.mmu.proofs.flush.Met as core-thm
use Rattle.host.proofs.Types.{mmu, said, kept_both}
use Rattle.lent.proofs.Lent0.{meets}
use Rattle.host.specs.contracts.flush.Key.{name as #flush}
use Rattle.host.specs.contracts.flush as flush
use Rattle.host.proofs.flush.Statement as stated
use Rattle.host.proofs.flush.Code as code

pub flush_spec : {M : Type 1} → stated.statement M
unfolding tables_of
flush_spec 𝓤 𝓛 𝓜 𝓡 wired =
    entered 𝓤 𝓛.H (triple_of 𝓛 flush.signature (flush.spec 𝓛 𝓜.mem 𝓡.returns))
    (tables 𝓤 𝓛.H 𝓜 𝓡 𝓡.env).C (tables 𝓤 𝓛.H 𝓜 𝓡 𝓡.env).Λ #flush code.function (code.unfolded 𝓤 𝓛.H 𝓜 𝓡 wired)
    (meets mmu said kept_both flush_of #core 𝓛 (tables_of 𝓤 𝓛.H 𝓜 (tables 𝓤 𝓛.H 𝓜 𝓡 𝓡.env))
    (core-thm.met 𝓤 𝓛 𝓜 𝓡 (code.calls-mmu::flush 𝓡.env wired)))
