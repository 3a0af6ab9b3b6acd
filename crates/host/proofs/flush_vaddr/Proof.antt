-- `host::flush_vaddr` meets its contract, by the law of `Lent1.antt`, at the theorem of the core's `flush_vaddr`.
-- Assumes nothing.
use contract.Running.{tables, tables_of}
use denote.Triple.Spec.{triple_of}
use denote.Triple.Table.{entered}
use Rattle.mmu.specs.Calls.{flush_vaddr_of}
use Rattle.mmu.proofs.flush_vaddr.Symbol.{symbol as #core}
use Rattle.mmu.proofs.flush_vaddr.Met as core-thm
use Rattle.host.proofs.Types.{mmu, said, kept_both}
use Rattle.lent.proofs.Value.{u64_value}
use Rattle.lent.proofs.Lent1.{meets}
use Rattle.host.specs.contracts.flush_vaddr.Key.{name as #flush_vaddr}
use Rattle.host.specs.contracts.flush_vaddr as flush_vaddr
use Rattle.host.proofs.flush_vaddr.Statement as stated
use Rattle.host.proofs.flush_vaddr.Code as code

pub flush_vaddr_spec : {M : Type 1} → stated.statement M
unfolding tables_of
flush_vaddr_spec 𝓤 𝓛 𝓜 𝓡 wired =
    entered 𝓤 𝓛.H (triple_of 𝓛 flush_vaddr.signature (flush_vaddr.spec 𝓛 𝓜.mem 𝓡.returns))
    (tables 𝓤 𝓛.H 𝓜 𝓡 𝓡.env).C (tables 𝓤 𝓛.H 𝓜 𝓡 𝓡.env).Λ #flush_vaddr code.function (code.unfolded 𝓤 𝓛.H 𝓜 𝓡 wired)
    (meets mmu u64_value said kept_both flush_vaddr_of #core 𝓛 (tables_of 𝓤 𝓛.H 𝓜 (tables 𝓤 𝓛.H 𝓜 𝓡 𝓡.env))
    (core-thm.met 𝓤 𝓛 𝓜 𝓡 (code.calls-mmu::flush_vaddr 𝓡.env wired)))
