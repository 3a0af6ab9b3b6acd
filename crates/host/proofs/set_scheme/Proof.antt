-- `host::set_scheme` meets its contract, by the law of `Lent1.antt`, at the theorem of the core's `set_scheme`.
-- Assumes nothing.
use contract.Running.{tables, tables_of}
use denote.Triple.Spec.{triple_of}
use denote.Triple.Table.{entered}
use Rattle.mmu.specs.Calls.{set_scheme_of}
use Rattle.mmu.proofs.set_scheme.Symbol.{symbol as #core}
use Rattle.mmu.proofs.set_scheme.Met as core-thm
use Rattle.host.proofs.Types.{mmu, scheme, said, kept_both}
use Rattle.lent.proofs.Lent1.{meets}
use Rattle.host.specs.contracts.set_scheme.Key.{name as #set_scheme}
use Rattle.host.specs.contracts.set_scheme as set_scheme
use Rattle.host.proofs.set_scheme.Statement as stated
use Rattle.host.proofs.set_scheme.Code as code

pub set_scheme_spec : {M : Type 1} → stated.statement M
unfolding tables_of
set_scheme_spec 𝓤 𝓛 𝓜 𝓡 wired =
    entered 𝓤 𝓛.H (triple_of 𝓛 set_scheme.signature (set_scheme.spec 𝓛 𝓜.mem 𝓡.returns))
    (tables 𝓤 𝓛.H 𝓜 𝓡 𝓡.env).C (tables 𝓤 𝓛.H 𝓜 𝓡 𝓡.env).Λ #set_scheme code.function (code.unfolded 𝓤 𝓛.H 𝓜 𝓡 wired)
    (meets mmu scheme said kept_both set_scheme_of #core 𝓛 (tables_of 𝓤 𝓛.H 𝓜 (tables 𝓤 𝓛.H 𝓜 𝓡 𝓡.env))
    (core-thm.met 𝓤 𝓛 𝓜 𝓡 (code.calls-mmu::set_scheme 𝓡.env wired)))
