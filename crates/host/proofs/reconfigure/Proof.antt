-- `host::reconfigure` meets its contract, by the law of `Lent1.antt`, at the theorem of the core's `reconfigure`.
-- Assumes nothing.
use contract.Running.{tables, tables_of}
use denote.Triple.Spec.{triple_of}
use denote.Triple.Table.{entered}
use Rattle.mmu.specs.Calls.{reconfigure_of}
use Rattle.mmu.proofs.reconfigure.Symbol.{symbol as #core}
use Rattle.mmu.proofs.reconfigure.Met as core-thm
use Rattle.host.proofs.Types.{mmu, config, said, kept_both}
use Rattle.lent.proofs.Lent1.{meets}
use Rattle.host.specs.contracts.reconfigure.Key.{name as #reconfigure}
use Rattle.host.specs.contracts.reconfigure as reconfigure
use Rattle.host.proofs.reconfigure.Statement as stated
use Rattle.host.proofs.reconfigure.Code as code

pub reconfigure_spec : {M : Type 1} → stated.statement M
unfolding tables_of
reconfigure_spec 𝓤 𝓛 𝓜 𝓡 wired =
    entered 𝓤 𝓛.H (triple_of 𝓛 reconfigure.signature (reconfigure.spec 𝓛 𝓜.mem 𝓡.returns))
    (tables 𝓤 𝓛.H 𝓜 𝓡 𝓡.env).C (tables 𝓤 𝓛.H 𝓜 𝓡 𝓡.env).Λ #reconfigure code.function (code.unfolded 𝓤 𝓛.H 𝓜 𝓡 wired)
    (meets mmu config said kept_both reconfigure_of #core 𝓛 (tables_of 𝓤 𝓛.H 𝓜 (tables 𝓤 𝓛.H 𝓜 𝓡 𝓡.env))
    (core-thm.met 𝓤 𝓛 𝓜 𝓡 (code.calls-mmu::reconfigure 𝓡.env wired)))
