-- `run_session` meets its contract, by the law of `Lending.antt`, at the theorems of the host's five calls.
-- Assumes nothing.
use mathlib.Core.Path.{refl}
use Rattle.std.specs.Prelude.{codes}
use contract.Running.{tables, tables_of}
use denote.Struct.Laws as LL
use denote.Triple.Spec.{triple_of}
use denote.Triple.Table.{entered}
use Rattle.mmu.specs.Calls.{translate_of, translate_ram, flush_vaddr_of, flush_of, set_scheme_of, reconfigure_of}
use Rattle.mmu.proofs.translate.Symbol.{symbol as #core}
use Rattle.mmu.proofs.flush_vaddr.Symbol.{symbol as #core₁}
use Rattle.mmu.proofs.flush.Symbol.{symbol as #core₂}
use Rattle.mmu.proofs.set_scheme.Symbol.{symbol as #core₃}
use Rattle.mmu.proofs.reconfigure.Symbol.{symbol as #core₄}
use Rattle.host.proofs.translate.Symbol.{symbol as #f}
use Rattle.host.proofs.translate.Met as thm
use Rattle.host.proofs.flush_vaddr.Symbol.{symbol as #f₁}
use Rattle.host.proofs.flush_vaddr.Met as thm₁
use Rattle.host.proofs.flush.Symbol.{symbol as #f₂}
use Rattle.host.proofs.flush.Met as thm₂
use Rattle.host.proofs.set_scheme.Symbol.{symbol as #f₃}
use Rattle.host.proofs.set_scheme.Met as thm₃
use Rattle.host.proofs.reconfigure.Symbol.{symbol as #f₄}
use Rattle.host.proofs.reconfigure.Met as thm₄
use Rattle.host.proofs.Types.{mmu, access, scheme, config, answer, said, kept_both, served_both}
use Rattle.lent.proofs.Value.{u64_value}
use Rattle.lending.specs.Session.{session_of}
use Rattle.lending.proofs.Lending.{Chain, meets}
use Rattle.lending.specs.contracts.Session as Session
use Rattle.lending.proofs.Session.TheLaws as Session'
use Rattle.lending.specs.contracts.run_session.Key.{name as #run_session}
use Rattle.lending.specs.contracts.run_session as run_session
use Rattle.lending.proofs.run_session.Statement as stated
use Rattle.lending.proofs.run_session.Code as code

-- the program's struct, by its name in the code
abbrev session : Chain served_both kept_both
session = record {
  row = Session.the_row;
  name = codes "lending::Session";
  all = λ a b c d e. record { translated = a; dropped = b; flushed = c; adopted = d; restarted = e };
  mir_is = refl;
  lawful = λ 𝓛. LL.lawful Session.the_type Session'.the_laws 𝓛;
  makes = λ 𝓛. LL.makes Session.the_type Session'.the_plain 𝓛;
  owes = λ a b c d e a_is b-is c-is d_is e-is. LL.owes Session.the_type Session'.the_laws (record { translated = a; dropped = b; flushed = c; adopted = d; restarted = e }) (a_is, (b-is, (c-is, (d_is, (e-is, tt)))));
}

pub run_session_spec : {M : Type 1} → stated.statement M
unfolding tables_of session_of
run_session_spec 𝓤 𝓛 𝓜 𝓡 wired =
    entered 𝓤 𝓛.H (triple_of 𝓛 run_session.signature (run_session.spec 𝓛 𝓜.mem 𝓡.returns))
    (tables 𝓤 𝓛.H 𝓜 𝓡 𝓡.env).C (tables 𝓤 𝓛.H 𝓜 𝓡 𝓡.env).Λ #run_session code.function (code.unfolded 𝓤 𝓛.H 𝓜 𝓡 wired)
    (meets mmu access u64_value scheme config answer said served_both kept_both session translate_of translate_ram flush_vaddr_of flush_of set_scheme_of reconfigure_of #core #core₁ #core₂ #core₃ #core₄ #f #f₁ #f₂ #f₃ #f₄ 𝓛 (tables_of 𝓤 𝓛.H 𝓜 (tables 𝓤 𝓛.H 𝓜 𝓡 𝓡.env))
    (thm.met 𝓤 𝓛 𝓜 𝓡 (code.calls-host::translate 𝓡.env wired))
    (thm₁.met 𝓤 𝓛 𝓜 𝓡 (code.calls-host::flush_vaddr 𝓡.env wired))
    (thm₂.met 𝓤 𝓛 𝓜 𝓡 (code.calls-host::flush 𝓡.env wired))
    (thm₃.met 𝓤 𝓛 𝓜 𝓡 (code.calls-host::set_scheme 𝓡.env wired))
    (thm₄.met 𝓤 𝓛 𝓜 𝓡 (code.calls-host::reconfigure 𝓡.env wired)))
