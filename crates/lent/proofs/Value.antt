-- A plain type that is held by value, with what a walk of MIR asks of it; a struct of an answer and a state; and the two ends of a call on a
-- state that is lent by `&mut`:
--     takes_out    the borrow is opened: the state's cell, its machine value written out, with the relation in hand
--     puts_back    a state is in the cell: the borrow is closed there
-- and the two ends of such a call on the lender's side:
--     lies_in, lies_out    a state in a local is one that lies in memory, and back
-- Assumes `Logic`.
use Rattle.std.specs.Prelude.{◌≡◌, ℕ, T as Holds, List, [], ◌∷◌}
use mathlib.Core.Path.{refl, sym, subst}
use seplogic.Ra.Ura.{Ura}
use base.Fraction.{full_share}
use mir.Syntax.{Ty, Sym, ty_struct, ty_int, tcons, tnil, w64}
use mir.Raw.{raw as raw_ty}
use mir.Val.{Val, WT, has_ty, vint, vstruct, vnil, vcons}
use base.Logic.{ent}
use base.Stored.{Gv}
use base.Fml.{GName, Lft, Share, ftrue, fsep, flft, fobs, fauth, fbor, fobor, fat}
use types.Logic.{Logic, sem}
use types.Kit.{Goal, Soaks, Item, ‵, ◌$◌, ◌∵◌, !, qed, Seq, Step, step, move, drop, use1, rewrite, fsplit, fjoin, fpick, fpack, done}
use types.SemTy.{Body}
use denote.RattleType.{RattleType}
use denote.Laws.{Is, shows, Tells, Lawful, Makes, Typed}
use denote.Memory.{mem, cell_at, part_of}
use denote.Exit.{Exit, unchanged, yes, Last, left}
use denote.Plain.{uint_Tells, uint_Makes, uint_Lawful}
use denote.Builtin.{u64}
use denote.Struct.Struct.{Plains}
use denote.Enum.Enum.{Few, Plainss}
use denote.Steps.{opens, closes, owned, peeks}
use denote.Struct.Steps.{spelt}
use denote.Struct.Declared as SD
use denote.Struct.Laws as LL
use denote.Enum.Declared as ED
use denote.Enum.Laws as EL

pub record Value : Type 2 where
  pub row : RattleType
  -- its MIR type, by value, and a value's machine value
  pub ty : Ty
  pub val : row.Denot → Val
  pub mir_is : row.mir ≡ ty ∷ []
  pub tells : Tells row (Is row) (λ x. val x ∷ [])
  pub lawful : {M : Type 1} {𝓤 : Ura M} (𝓛 : Logic 𝓤) → Lawful 𝓛 row
  -- it owns only facts
  pub makes : {M : Type 1} {𝓤 : Ura M} (𝓛 : Logic 𝓤) → Makes 𝓛 row (Is row)
  -- and leaves nothing at exit
  pub last : (x : row.Denot) → Last (row.exit yes) x
  pub silent : (x : row.Denot) (w : Last (row.exit yes) x) → left (row.exit yes) x w ≡ ftrue

-- ---- a declared struct and a declared enum of plain data. Of a type `X`, `the_type` is in its module of
-- `specs.contracts`, and `the_laws`, `the_plain`, `the_copy` and `mir` in the `TheLaws` below its module of `proofs`
module _ {X : Type 0} (e : Exit X) (still : e ≡ unchanged) where
  pub last_of : (x : X) → Last e x
  last_of x = subst (λ (e' : Exit X). Last e' x) (sym still) tt

  pub silent_of : (x : X) (w : Last e x) → left e x w ≡ ftrue
  silent_of x w = subst (λ (e' : Exit X). (w' : Last e' x) → left e' x w' ≡ ftrue) (sym still) (λ w'. refl) w

abbrev pub struct_value : (T : SD.Declared) (L : LL.Laws T) → Plains (SD.fields T) → LL.Copyables T.parts → (ty : Ty) → (SD.row T).mir ≡ ty ∷ [] → Value
struct_value T L plain copy ty mir_is = record {
  row = SD.row T;
  ty = ty;
  val = LL.val T L;
  mir_is = mir_is;
  tells = LL.tells T L;
  lawful = λ 𝓛. LL.lawful T L 𝓛;
  makes = λ 𝓛. LL.makes T plain 𝓛;
  last = last_of ((SD.row T).exit yes) (LL.still T copy yes);
  silent = silent_of ((SD.row T).exit yes) (LL.still T copy yes);
}

abbrev pub enum_value : (T : ED.Declared) (L : EL.Laws T) → Few (ED.shape T) → Plainss (ED.variants T) → EL.Copyabless T.parts → (ty : Ty) → (ED.row T).mir ≡ ty ∷ [] → Value
enum_value T L few plain copy ty mir_is = record {
  row = ED.row T;
  ty = ty;
  val = EL.val T L;
  mir_is = mir_is;
  tells = EL.tells T L;
  lawful = λ 𝓛. EL.lawful T L 𝓛 few;
  makes = λ 𝓛. EL.makes T plain 𝓛;
  last = last_of ((ED.row T).exit yes) (EL.still T copy yes);
  silent = silent_of ((ED.row T).exit yes) (EL.still T copy yes);
}

abbrev pub u64_value : Value
u64_value = record {
  row = u64;
  ty = ty_int w64;
  val = vint w64;
  mir_is = refl;
  tells = uint_Tells w64;
  lawful = λ 𝓛. uint_Lawful 𝓛 w64;
  makes = λ 𝓛. uint_Makes 𝓛 w64;
  last = λ x. tt;
  silent = λ x w. refl;
}

-- what a core's function returns: an answer, and then the state
pub record Beside (N S : Value) : Type 2 where
  pub row : RattleType
  pub name : Sym
  pub answer : row.Denot → N.row.Denot
  pub state : row.Denot → S.row.Denot
  pub both : N.row.Denot → S.row.Denot → row.Denot
  pub both_is : (r : row.Denot) → both (answer r) (state r) ≡ r
  pub answer_of : (n : N.row.Denot) (s : S.row.Denot) → answer (both n s) ≡ n
  pub state_of : (n : N.row.Denot) (s : S.row.Denot) → state (both n s) ≡ s
  pub mir_is : row.mir ≡ ty_struct name (tcons N.ty (tcons S.ty tnil)) ∷ []
  pub tells : Tells row (Is row) (λ r. vstruct (vcons (N.val (answer r)) (vcons (S.val (state r)) vnil)) ∷ [])
  pub lawful : {M : Type 1} {𝓤 : Ura M} (𝓛 : Logic 𝓤) → Lawful 𝓛 row
  pub answer_is : (r : row.Denot) (vs : List Val) → Is row r vs → Is N.row (answer r) (N.val (answer r) ∷ [])
  pub state_is : (r : row.Denot) (vs : List Val) → Is row r vs → Is S.row (state r) (S.val (state r) ∷ [])
  -- for who makes one
  pub owes : (n : N.row.Denot) (s : S.row.Denot) → Is N.row n (N.val n ∷ []) → Is S.row s (S.val s ∷ []) → Is row (both n s) (vstruct (vcons (N.val n) (vcons (S.val s) vnil)) ∷ [])
  pub makes : {M : Type 1} {𝓤 : Ura M} (𝓛 : Logic 𝓤) → Makes 𝓛 row (Is row)

abbrev pub beside_ty : {N S : Value} → Beside N S → Ty
beside_ty {N} {S} D = ty_struct D.name (tcons N.ty (tcons S.ty tnil))

abbrev pub beside_val : {N S : Value} (D : Beside N S) → D.row.Denot → Val
beside_val {N} {S} D r = vstruct (vcons (N.val (D.answer r)) (vcons (S.val (D.state r)) vnil))

-- the relation of a whole, of those of its parts
pub beside_is : {N S : Value} (D : Beside N S) (r : D.row.Denot) → Is N.row (D.answer r) (N.val (D.answer r) ∷ []) → Is S.row (D.state r) (S.val (D.state r) ∷ []) → Is D.row r (beside_val D r ∷ [])
beside_is D r n-is s-is = subst (λ (r' : D.row.Denot). Is D.row r' (beside_val D r ∷ [])) (D.both_is r) (D.owes (D.answer r) (D.state r) n-is s-is)

-- the relation at a value's own machine value
pub is_val : (S : Value) (x : S.row.Denot) (v : Val) → Is S.row x (v ∷ []) → Is S.row x (S.val x ∷ [])
is_val S x v is = subst (Is S.row x) (S.tells x (v ∷ []) is) is

module _ {M : Type 1} {𝓤 : Ura M} (𝓛 : Logic 𝓤) where
  -- a machine value that a value owns has its MIR type
  pub typed : (S : Value) (x : S.row.Denot) (v : Val) → Is S.row x (v ∷ []) → Holds (has_ty S.ty v) × WT v
  typed S x v is = (subst (λ (τs : List Ty). Typed τs (v ∷ [])) S.mir_is ((S.lawful 𝓛).typed x (v ∷ []) is)).0

  pub beside_typed : {N S : Value} (D : Beside N S) (r : D.row.Denot) (v : Val) → Is D.row r (v ∷ []) → Holds (has_ty (beside_ty D) v) × WT v
  beside_typed D r v is = (subst (λ (τs : List Ty). Typed τs (v ∷ [])) D.mir_is ((D.lawful 𝓛).typed r (v ∷ []) is)).0

module _ {M : Type 1} {𝓤 : Ura M} {𝓛 : Logic 𝓤} {K : Type 0} {Γ : List (Item 𝓤)} {G : Goal 𝓤 𝓛.H} where
  pub takes_out : K → Soaks G → (S : Value) → {κ : Lft} {q : Share} {h : S.row.Denot} {γ : GName} (b o : ℕ)
      → (Is S.row h (S.val h ∷ []) → Seq K 𝓛 (‵ (fat full_share (raw_ty S.ty) b o (S.val h)) ∷ ‵ (S.row.own_val h (S.val h ∷ [])) ∷ ‵ (fobor κ q (Body (mem S.row) b o γ)) ∷ ‵ (fobs γ (S.row.coded.code h)) ∷ ‵ (fauth γ (S.row.coded.code h)) ∷ Γ) G)
      → Seq K 𝓛 (‵ (fobs γ (S.row.coded.code h)) ∷ ‵ (fbor κ (Body (mem S.row) b o γ)) ∷ ‵ (flft κ q) ∷ Γ) G
  takes_out t z S {h = h} b o k = opens t z S.row {h = h} b o (λ vs. spelt t S.row (Is S.row) (shows 𝓛 S.row) (λ x. S.val x ∷ []) S.tells full_share h vs b o $
      move t (1 ∷ []) $ peeks t S.row (Is S.row) (shows 𝓛 S.row) h (S.val h ∷ []) (λ is. move t (1 ∷ 0 ∷ []) $
      rewrite t 0 (λ (τs : List Ty). ‵ (cell_at full_share τs (S.val h ∷ []) b o)) S.mir_is refl $ k is))

  pub puts_back : K → Soaks G → (S : Value) → {κ : Lft} {q : Share} {u v : Gv} (r : S.row.Denot) {γ : GName} (b o : ℕ) → Is S.row r (S.val r ∷ [])
      → Step K 𝓛 (‵ (fobs γ (S.row.coded.code r)) ∷ ‵ (fbor κ (Body (mem S.row) b o γ)) ∷ ‵ (flft κ q) ∷ Γ) G
      (‵ (fat full_share (raw_ty S.ty) b o (S.val r)) ∷ ‵ (fobor κ q (Body (mem S.row) b o γ)) ∷ ‵ (fobs γ u) ∷ ‵ (fauth γ v) ∷ Γ) G
  puts_back t z S r b o is = step (λ s. owned t S.row (Is S.row) (S.makes 𝓛) r (S.val r ∷ []) is $
      rewrite t 1 (λ (τs : List Ty). ‵ (cell_at full_share τs (S.val r ∷ []) b o)) (sym S.mir_is) refl $ move t (1 ∷ 0 ∷ []) $ closes t z S.row r (S.val r ∷ []) b o $ s)

pub lies_in : {M : Type 1} {𝓤 : Ura M} (𝓛 : Logic 𝓤) (S : Value) (h : S.row.Denot) (b o : ℕ) → Is S.row h (S.val h ∷ [])
    → ent 𝓤 (sem 𝓛 (fat full_share S.ty b o (S.val h))) (sem 𝓛 ((mem S.row).own_at h b o))
unfolding part_of
lies_in 𝓛 S h b o is =
    qed 𝓛 (‵ (fat full_share S.ty b o (S.val h)) ∷ []) ∵ use1 𝓛 (‵ (fat full_share (raw_ty S.ty) b o (S.val h))) (𝓛.laws.at_raw full_share S.ty b o (S.val h)) $
    rewrite ! 0 (λ (τs : List Ty). ‵ (cell_at full_share τs (S.val h ∷ []) b o)) (sym S.mir_is) refl $
    owned ! S.row (Is S.row) (S.makes 𝓛) h (S.val h ∷ []) is $ move ! (1 ∷ 0 ∷ []) $ fjoin ! $ fpack ! (List Val) (λ us. fsep (cell_at full_share S.row.mir us b o) (S.row.own_val h us)) (S.val h ∷ []) $ done !

pub lies_out : {M : Type 1} {𝓤 : Ura M} {𝓛 : Logic 𝓤} {K : Type 0} {Γ : List (Item 𝓤)} {G : Goal 𝓤 𝓛.H} → K → (S : Value) (h : S.row.Denot) (b o : ℕ)
    → (Is S.row h (S.val h ∷ []) → Seq K 𝓛 (‵ (fat full_share S.ty b o (S.val h)) ∷ Γ) G) → Seq K 𝓛 (‵ ((mem S.row).own_at h b o) ∷ Γ) G
unfolding part_of
lies_out {M} {𝓤} {𝓛} {K} t S h b o k = fpick t (λ vs. fsplit t $ spelt t S.row (Is S.row) (shows 𝓛 S.row) (λ x. S.val x ∷ []) S.tells full_share h vs b o $
    move t (1 ∷ []) $ peeks t S.row (Is S.row) (shows 𝓛 S.row) h (S.val h ∷ []) (λ is. drop t $
    rewrite t 0 (λ (τs : List Ty). ‵ (cell_at full_share τs (S.val h ∷ []) b o)) S.mir_is refl $ use1 𝓛 (‵ (fat full_share S.ty b o (S.val h))) (𝓛.laws.raw_at full_share S.ty b o (S.val h)) $ k is))
