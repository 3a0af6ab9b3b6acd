-- The core's types as the laws of `lent` have them: the state, the answers, the parameters, and the two structs of an answer and a state. Each
-- is read off the modules that the check makes of the type.
-- Assumes nothing.
use mathlib.Core.Path.{refl}
use mir.Syntax.{ty_enum, ty_unit, tcons, tnil, ttcons, ttnil}
use Rattle.std.specs.Prelude.{codes}
use denote.Builtin.{unit}
use denote.Param.Laws as PL
use denote.Param.Shared.{copy_shared}
use denote.Struct.Field.{unit-field}
use denote.Struct.Laws as LL
use Rattle.host.specs.Lent.{kept, served}
use Rattle.scheme.specs.contracts.PagingScheme as PagingScheme
use Rattle.scheme.proofs.PagingScheme.TheLaws as PagingScheme'
use Rattle.scheme.specs.contracts.refusal.Refusal as Refusal
use Rattle.scheme.proofs.refusal.Refusal.TheLaws as Refusal'
use Rattle.std.specs.contracts.result.Result as Result
use Rattle.std.proofs.result.Result.TheLaws as Result'
use Rattle.walk.specs.contracts.Access as Access
use Rattle.walk.proofs.Access.TheLaws as Access'
use Rattle.entry.specs.contracts.TlbConfig as TlbConfig
use Rattle.entry.proofs.TlbConfig.TheLaws as TlbConfig'
use Rattle.state.specs.contracts.Mmu as Mmu
use Rattle.state.proofs.Mmu.TheLaws as Mmu'
use Rattle.access.specs.contracts.Answer as Answer
use Rattle.access.proofs.Answer.TheLaws as Answer'
use Rattle.access.specs.contracts.Served as Served
use Rattle.access.proofs.Served.TheLaws as Served'
use Rattle.mmu.specs.contracts.Kept as Kept
use Rattle.mmu.proofs.Kept.TheLaws as Kept'
use Rattle.lent.proofs.Value.{Value, Beside, struct_value, enum_value}

abbrev pub mmu : Value
mmu = struct_value Mmu.the_type Mmu'.the_laws Mmu'.the_plain Mmu'.the_copy Mmu'.mir refl

abbrev pub scheme : Value
scheme = struct_value PagingScheme.the_type PagingScheme'.the_laws PagingScheme'.the_plain PagingScheme'.the_copy PagingScheme'.mir refl

abbrev pub config : Value
config = struct_value TlbConfig.the_type TlbConfig'.the_laws TlbConfig'.the_plain TlbConfig'.the_copy TlbConfig'.mir refl

abbrev pub access : Value
access = struct_value Access.the_type Access'.the_laws Access'.the_plain Access'.the_copy Access'.mir refl

-- `()`, as the laws of a type parameter's argument have it
abbrev unit_laws : PL.Laws unit
unit_laws = PL.of_field unit-field LL.unit-laws refl (copy_shared unit-field LL.unit-copy)

-- `Result<(), Refusal>`
abbrev pub said : Value
said =
    enum_value (Result.the_type unit Refusal.the_row)
    (Result'.the_laws unit Refusal.the_row unit_laws Refusal'.the_row_laws (PL.field_told unit-field LL.unit-laws) Refusal'.the_told) tt
    (Result'.the_plain unit Refusal.the_row LL.unit-plain Refusal'.the_row_plain)
    (Result'.the_copy unit Refusal.the_row unit_laws Refusal'.the_row_laws (PL.of_copyable unit-field LL.unit-copy) Refusal'.the_row_copy)
    (ty_enum (codes "core::result::Result") (ttcons (tcons ty_unit tnil) (ttcons (tcons Refusal'.mir tnil) ttnil))) refl

abbrev pub answer : Value
answer = struct_value Answer.the_type Answer'.the_laws Answer'.the_plain Answer'.the_copy Answer'.mir refl

-- each by its name in the code
abbrev pub kept_both : Beside said mmu
kept_both = record {
  row = Kept.the_row;
  name = codes "mmu::Kept";
  answer = λ r. r.said;
  state = λ r. r.mmu;
  both = kept;
  both_is = λ r. refl;
  answer_of = λ n s. refl;
  state_of = λ n s. refl;
  mir_is = refl;
  tells = LL.tells Kept.the_type Kept'.the_laws;
  lawful = λ 𝓛. LL.lawful Kept.the_type Kept'.the_laws 𝓛;
  answer_is = λ r vs is. (LL.owed Kept.the_type Kept'.the_laws r vs is).0;
  state_is = λ r vs is. (LL.owed Kept.the_type Kept'.the_laws r vs is).1.0;
  owes = λ n s n-is s-is. LL.owes Kept.the_type Kept'.the_laws (kept n s) (n-is, (s-is, tt));
  makes = λ 𝓛. LL.makes Kept.the_type Kept'.the_plain 𝓛;
}

abbrev pub served_both : Beside answer mmu
served_both = record {
  row = Served.the_row;
  name = codes "access::Served";
  answer = λ r. r.said;
  state = λ r. r.mmu;
  both = served;
  both_is = λ r. refl;
  answer_of = λ n s. refl;
  state_of = λ n s. refl;
  mir_is = refl;
  tells = LL.tells Served.the_type Served'.the_laws;
  lawful = λ 𝓛. LL.lawful Served.the_type Served'.the_laws 𝓛;
  answer_is = λ r vs is. (LL.owed Served.the_type Served'.the_laws r vs is).0;
  state_is = λ r vs is. (LL.owed Served.the_type Served'.the_laws r vs is).1.0;
  owes = λ n s n-is s-is. LL.owes Served.the_type Served'.the_laws (served n s) (n-is, (s-is, tt));
  makes = λ 𝓛. LL.makes Served.the_type Served'.the_plain 𝓛;
}
