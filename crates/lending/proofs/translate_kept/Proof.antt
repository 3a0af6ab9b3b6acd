-- `translate_kept` meets its contract, by the law of `Once.antt`, at the theorem of the host's `translate`.
-- Assumes nothing.
use contract.Running.{tables, tables_of}
use denote.Triple.Spec.{triple_of}
use denote.Triple.Table.{entered}
use Rattle.mmu.specs.Calls.{translate_of, translate_ram}
use Rattle.mmu.proofs.translate.Symbol.{symbol as #core}
use Rattle.host.proofs.translate.Symbol.{symbol as #f}
use Rattle.host.proofs.translate.Met as thm
use Rattle.host.proofs.Types.{mmu, access, answer, served_both}
use Rattle.lending.proofs.Once.{meets}
use Rattle.lending.specs.contracts.translate_kept.Key.{name as #translate_kept}
use Rattle.lending.specs.contracts.translate_kept as translate_kept
use Rattle.lending.proofs.translate_kept.Statement as stated
use Rattle.lending.proofs.translate_kept.Code as code

pub translate_kept_spec : {M : Type 1} → stated.statement M
unfolding tables_of
translate_kept_spec 𝓤 𝓛 𝓜 𝓡 wired =
    entered 𝓤 𝓛.H (triple_of 𝓛 translate_kept.signature (translate_kept.spec 𝓛 𝓜.mem 𝓡.returns))
    (tables 𝓤 𝓛.H 𝓜 𝓡 𝓡.env).C (tables 𝓤 𝓛.H 𝓜 𝓡 𝓡.env).Λ #translate_kept code.function (code.unfolded 𝓤 𝓛.H 𝓜 𝓡 wired)
    (meets mmu access answer served_both translate_of translate_ram #core #f 𝓛 (tables_of 𝓤 𝓛.H 𝓜 (tables 𝓤 𝓛.H 𝓜 𝓡 𝓡.env))
    (thm.met 𝓤 𝓛 𝓜 𝓡 (code.calls-host::translate 𝓡.env wired)))
