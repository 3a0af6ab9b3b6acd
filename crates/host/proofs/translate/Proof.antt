-- `host::translate` meets its contract, by the law of `LentRam1.antt`, at the theorem of the core's `translate`.
-- Assumes nothing.
use contract.Running.{tables, tables_of}
use denote.Triple.Spec.{triple_of}
use denote.Triple.Table.{entered}
use Rattle.mmu.specs.Calls.{translate_of, translate_ram}
use Rattle.mmu.proofs.translate.Symbol.{symbol as #core}
use Rattle.mmu.proofs.translate.Met as core-thm
use Rattle.host.proofs.Types.{mmu, access, answer, served_both}
use Rattle.lent.proofs.LentRam1.{meets}
use Rattle.host.specs.contracts.translate.Key.{name as #translate}
use Rattle.host.specs.contracts.translate as translate
use Rattle.host.proofs.translate.Statement as stated
use Rattle.host.proofs.translate.Code as code

pub translate_spec : {M : Type 1} → stated.statement M
unfolding tables_of
translate_spec 𝓤 𝓛 𝓜 𝓡 wired =
    entered 𝓤 𝓛.H (triple_of 𝓛 translate.signature (translate.spec 𝓛 𝓜.mem 𝓡.returns))
    (tables 𝓤 𝓛.H 𝓜 𝓡 𝓡.env).C (tables 𝓤 𝓛.H 𝓜 𝓡 𝓡.env).Λ #translate code.function (code.unfolded 𝓤 𝓛.H 𝓜 𝓡 wired)
    (meets mmu access answer served_both translate_of translate_ram #core 𝓛 (tables_of 𝓤 𝓛.H 𝓜 (tables 𝓤 𝓛.H 𝓜 𝓡 𝓡.env))
    (core-thm.met 𝓤 𝓛 𝓜 𝓡 (code.calls-mmu::translate 𝓡.env wired)))
