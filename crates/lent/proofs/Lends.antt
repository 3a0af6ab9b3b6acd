-- The lender's side of `Lent0.antt`, `Lent1.antt` and `LentRam1.antt`: calls with a local lent, as steps of a walk.
--     let n = f(&mut kept, ..);
-- A lifetime is made for the call and the local is lent for it; once it is over the local is there again, at what `f` left. Of `f` a step knows
-- that it meets the contract of its shape; after it the answer is F's answer, and the local holds F's state. So the same local can be lent
-- to one call after another.
-- Assumes nothing.
use Rattle.std.specs.Prelude.{◌≡◌, ℕ, List, [], ◌∷◌, length}
use mathlib.Core.Path.{refl, sym, ap, ◌∙◌, subst}
use seplogic.Ra.Ura.{Ura}
use base.Fraction.{full_share}
use mir.Syntax.{Symbol, fn₀, Opd as Operand, Place, Body as Code, named, call, seq}
use mir.Val.{Val, vptr}
use base.Logic.{ent, sep, id⊢}
use base.Fml.{GName, Lft, Share, ftrue, flft, fres, flent, fat}
use prog.Wp.{Env, Calls, Loops}
use types.Logic.{Logic, sem}
use contract.Monad.{fact}
use types.Kit.{Goal, Soaks, Post, Item, Seq, runs, lands, ‵, raw, ◌⊛◌, some, later, ◌$◌, ◌∵◌, !, qed, move, drop, use1, use2, use3, split, join, pick, rewrite, fsplit, fjoin, feq_l, frame, await, done}
use types.Run.{Opds}
use types.SemTy.{Body}
use types.Tokens.{lft_new, lft_end}
use sound.WpLaws.{FmC}
use denote.Laws.{Is, shows}
use denote.Lend.{lends_ref, ref_back}
use denote.Memory.{mem}
use denote.Builtin.{u8}
use denote.Ref.{MutBor, MutRef}
use denote.Slice.{slice_val, MutSlice}
use denote.Steps.{only, owned, peeks, heard, nothing}
use denote.Triple.Statement.{Contract, Triple}
use denote.Triple.Call.{calls_at}
use denote.Triple.Clauses.{Lasts, closing, ensured, lasts}
use denote.Triple.Spec.{triple_of}
use Rattle.lent.proofs.Value.{Value, Beside, is_val, lies_in, lies_out}
use Rattle.lent.proofs.Lent0 as Lent0
use Rattle.lent.proofs.Lent1 as Lent1
use Rattle.lent.proofs.LentRam1 as LentRam1
use Rattle.lent.proofs.LentRam1.{Of, ram_left}

-- the reference to a local at l that holds h, lent under the name γ
abbrev ref : (S : Value) → S.row.Denot → ℕ → GName → MutBor S.row.Denot
ref S h l γ = record { ref_ptr = (l, 0); ghost_name = γ; now = h }

module _ {M : Type 1} {𝓤 : Ura M} {𝓛 : Logic 𝓤} {K : Type 0} {Γ : List (Item 𝓤)} {G : Goal 𝓤 𝓛.H} where
  -- a local is lent for a lifetime ν of its own
  out : K → Soaks G → (S : Value) (h : S.row.Denot) (l : ℕ) → Is S.row h (S.val h ∷ [])
      → ((ν : ℕ) (γ : GName) → Seq K 𝓛 (‵ (flft (ν ∷ []) full_share) ∷ ‵ ((MutRef (named 0) (ν ∷ []) S.row).own_val (ref S h l γ) (vptr l 0 ∷ [])) ∷ ‵ (flent (ν ∷ []) (Body (mem S.row) l 0 γ)) ∷ Γ) G)
      → Seq K 𝓛 (‵ (fat full_share S.ty l 0 (S.val h)) ∷ Γ) G
  out t z S h l is k = lft_new t z (λ ν. move t (1 ∷ []) $ use1 𝓛 (‵ ((mem S.row).own_at h l 0)) (lies_in 𝓛 S h l 0 is) $
      use1 𝓛 (later (some (λ (γ : GName). ‵ ((MutRef (named 0) (ν ∷ []) S.row).own_val (ref S h l γ) (vptr l 0 ∷ [])) ⊛ ‵ (flent (ν ∷ []) (Body (mem S.row) l 0 γ))))) (lends_ref 𝓛 S.row (named 0) (ν ∷ []) h l 0) $
      await t z $ pick t (λ γ. split t $ move t (2 ∷ []) $ k ν γ))

  -- ν is over, and the local is there again, at the last value of the reference
  back : K → Soaks G → (S : Value) (h : S.row.Denot) (l ν : ℕ) (γ : GName) → (Is S.row h (S.val h ∷ []) → Seq K 𝓛 (‵ (fat full_share S.ty l 0 (S.val h)) ∷ Γ) G)
      → Seq K 𝓛 (‵ (flft (ν ∷ []) full_share) ∷ ‵ (flent (ν ∷ []) (Body (mem S.row) l 0 γ)) ∷ ‵ (fres γ (S.row.coded.code h)) ∷ Γ) G
  back t z S h l ν γ k = lft_end t z $ use3 𝓛 (later (‵ ((mem S.row).own_at h l 0))) (ref_back 𝓛 S.row (ν ∷ []) γ h l 0) $ await t z $ lies_out t S h l 0 k

-- an answer and a state that are r's, where r is theirs
module _ {N S : Value} (D : Beside N S) (n : N.row.Denot) (s : S.row.Denot) (r : D.row.Denot) (e : D.both n s ≡ r) where
  answer_is_its : n ≡ D.answer r
  answer_is_its = sym (D.answer_of n s) ∙ ap D.answer e

  state_is_its : s ≡ D.state r
  state_is_its = sym (D.state_of n s) ∙ ap D.state e

-- what a walk has once a call has left r: the answer as it is to be stored, and the state in its local
abbrev Left : {N S : Value} (D : Beside N S) (r : D.row.Denot) {M : Type 1} {𝓤 : Ura M} (K : Type 0) (𝓛 : Logic 𝓤) (Γ : List (Item 𝓤)) (l : ℕ) → (Val → Goal 𝓤 𝓛.H) → Type 1
Left {N} {S} D r K 𝓛 Γ l G = Is N.row (D.answer r) (N.val (D.answer r) ∷ []) → Is S.row (D.state r) (S.val (D.state r) ∷ []) → Seq K 𝓛 (‵ (fat full_share S.ty l 0 (S.val (D.state r))) ∷ Γ) (G (N.val (D.answer r)))

leaves : {N S : Value} (D : Beside N S) (r : D.row.Denot) {M : Type 1} {𝓤 : Ura M} {𝓛 : Logic 𝓤} {K : Type 0} {Γ : List (Item 𝓤)} (l : ℕ) (G : Val → Goal 𝓤 𝓛.H)
    (n : N.row.Denot) (s : S.row.Denot) (v : Val) → D.both n s ≡ r → Is N.row n (v ∷ []) → Is S.row s (S.val s ∷ []) → Left D r K 𝓛 Γ l G → Seq K 𝓛 (‵ (fat full_share S.ty l 0 (S.val s)) ∷ Γ) (G v)
leaves {N} {S} D r {𝓛 = 𝓛} {K = K} {Γ} l G n s v e n-is s-is k =
    subst (λ (s' : S.row.Denot). Seq K 𝓛 (‵ (fat full_share S.ty l 0 (S.val s')) ∷ Γ) (G v)) (sym s=)
    (subst (λ (u : Val). Seq K 𝓛 (‵ (fat full_share S.ty l 0 (S.val (D.state r))) ∷ Γ) (G u)) (sym (ap only (N.tells n (v ∷ []) n-is) ∙ ap N.val n=))
    (k (subst (λ (n' : N.row.Denot). Is N.row n' (N.val n' ∷ [])) n= (is_val N n v n-is)) (subst (λ (s' : S.row.Denot). Is S.row s' (S.val s' ∷ [])) s= s-is)))
  where
    n= : n ≡ D.answer r
    n= = answer_is_its D n s r e

    s= : s ≡ D.state r
    s= = state_is_its D n s r e

module _ (S N : Value) (D : Beside N S) (F : S.row.Denot → D.row.Denot) (core f : Symbol) where
  -- what `f` meets
  abbrev pub Called0 : {M : Type 1} {𝓤 : Ura M} (𝓛 : Logic 𝓤) → Contract 𝓤
  Called0 {𝓤 = 𝓤} 𝓛 = triple_of 𝓛 (Lent0.ended S N D F core).signature (closing 𝓛 (Lent0.ended S N D F core) (Lent0.clauses S N D F core 𝓤))

  module _ {M : Type 1} {𝓤 : Ura M} (𝓛 : Logic 𝓤) (h : S.row.Denot) (l ν : ℕ) (γ : GName) where
    open 𝓛 use {A}

    abbrev to0 : (Called0 𝓛).Ghost
    to0 = (((ν ∷ [], tt), (full_share, tt), tt, (ref S h l γ, tt), (vptr l 0 ∷ [], tt)), tt)

    goes0 : ent 𝓤 (sep 𝓤 (A.lft (ν ∷ []) full_share) (sem 𝓛 ((MutRef (named 0) (ν ∷ []) S.row).own_val (ref S h l γ) (vptr l 0 ∷ [])))) ((Called0 𝓛).pre to0)
    goes0 =
        qed 𝓛 (‵ (flft (ν ∷ []) full_share) ∷ ‵ ((MutRef (named 0) (ν ∷ []) S.row).own_val (ref S h l γ) (vptr l 0 ∷ [])) ∷ []) ∵
        nothing ! $ move ! (2 ∷ 0 ∷ []) $ fjoin ! $ nothing ! $ move ! (2 ∷ 0 ∷ []) $ join ! $ join ! $ frame ! $ done !

  module _ {M : Type 1} {𝓤 : Ura M} {𝓛 : Logic 𝓤} {K : Type 0} {Γ : List (Item 𝓤)} {E : Env 𝓤 𝓛.H} {C : Calls 𝓤 𝓛.H} {Λ : Loops 𝓤 𝓛.H} {q : Post 𝓤 𝓛.H} {d : Place} {xs : List Operand} {rest : Code} where
    open 𝓛 use {H}

    pub lends0 : K → FmC 𝓤 H 𝓛.laws C → Triple 𝓤 (C (fn₀ f)) (Called0 𝓛) → (h : S.row.Denot) (l : ℕ) → Is S.row h (S.val h ∷ [])
        → ((i j : Item 𝓤) → Opds K 𝓛 (i ∷ j ∷ Γ) E xs (vptr l 0 ∷ [])) → Left D (F h) K 𝓛 Γ l (λ v. lands C Λ E d v rest q)
        → Seq K 𝓛 (‵ (fat full_share S.ty l 0 (S.val h)) ∷ Γ) (runs C Λ E (seq (call (fn₀ f) xs d) rest) q)
    lends0 t fm known h l is os k = out t tt S h l is (λ ν γ. use2 𝓛 (raw ((Called0 𝓛).pre (to0 𝓛 h l ν γ))) (goes0 𝓛 h l ν γ) $
        calls_at t fm (Called0 𝓛) known (to0 𝓛 h l ν γ) (os _ _) (λ v.
        use1 𝓛 (later (some (λ (n : N.row.Denot). ((‵ (flft (ν ∷ []) full_share) ⊛ ‵ ftrue) ⊛ ‵ (N.row.own_val n (v ∷ []))) ⊛ raw (ensured 𝓛 (Lent0.ended S N D F core) (Lent0.clauses S N D F core 𝓤) (ν ∷ [], tt) (ref S h l γ, tt) tt n)))) (id⊢ 𝓤 _) $
        await t tt $ pick t (λ n. split t $ move t (1 ∷ []) $
        use1 𝓛 (some (λ (ws : Lasts (Lent0.ended S N D F core) (ν ∷ [], tt) (ref S h l γ, tt)). ‵ (lasts (Lent0.ended S N D F core) (ν ∷ [], tt) (ref S h l γ, tt) ws) ⊛ raw (fact 𝓤 (D.both n ws.0 ≡ F h)))) (id⊢ 𝓤 _) $ pick t (λ ws.
        split t $ move t (1 ∷ []) $ heard t (D.both n ws.0 ≡ F h) (λ e. fsplit t $ fsplit t $ move t (1 ∷ []) $ drop t $ move t (2 ∷ []) $ split t $ move t (1 ∷ []) $ peeks t N.row (Is N.row) (shows 𝓛 N.row) n (v ∷ []) (λ n-is. drop t $
        -- [the token and true; the last state; true; the lender's part; ..]
        split t $ move t (1 ∷ 3 ∷ []) $ drop t $ drop t $ move t (0 ∷ 2 ∷ 1 ∷ []) $ back t tt S ws.0 l ν γ (λ s-is. leaves D (F h) l (λ u. lands C Λ E d u rest q) n ws.0 v e n-is s-is k)))))))

module _ (S P N : Value) (D : Beside N S) (F : S.row.Denot → P.row.Denot → D.row.Denot) (core f : Symbol) where
  abbrev pub Called1 : {M : Type 1} {𝓤 : Ura M} (𝓛 : Logic 𝓤) → Contract 𝓤
  Called1 {𝓤 = 𝓤} 𝓛 = triple_of 𝓛 (Lent1.ended S P N D F core).signature (closing 𝓛 (Lent1.ended S P N D F core) (Lent1.clauses S P N D F core 𝓤))

  module _ {M : Type 1} {𝓤 : Ura M} (𝓛 : Logic 𝓤) (h : S.row.Denot) (p : P.row.Denot) (l ν : ℕ) (γ : GName) where
    open 𝓛 use {A}

    abbrev to1 : (Called1 𝓛).Ghost
    to1 = (((ν ∷ [], tt), (full_share, tt), tt, (ref S h l γ, (p, tt)), (vptr l 0 ∷ [], (P.val p ∷ [], tt))), tt)

    goes1 : Is P.row p (P.val p ∷ []) → ent 𝓤 (sep 𝓤 (A.lft (ν ∷ []) full_share) (sem 𝓛 ((MutRef (named 0) (ν ∷ []) S.row).own_val (ref S h l γ) (vptr l 0 ∷ [])))) ((Called1 𝓛).pre to1)
    goes1 p-is =
        qed 𝓛 (‵ (flft (ν ∷ []) full_share) ∷ ‵ ((MutRef (named 0) (ν ∷ []) S.row).own_val (ref S h l γ) (vptr l 0 ∷ [])) ∷ []) ∵
        nothing ! $ owned ! P.row (Is P.row) (P.makes 𝓛) p _ p-is $ fjoin ! $ move ! (2 ∷ 0 ∷ []) $ fjoin ! $ nothing ! $ move ! (2 ∷ 0 ∷ []) $ join ! $ join ! $ frame ! $ done !

  module _ {M : Type 1} {𝓤 : Ura M} {𝓛 : Logic 𝓤} {K : Type 0} {Γ : List (Item 𝓤)} {E : Env 𝓤 𝓛.H} {C : Calls 𝓤 𝓛.H} {Λ : Loops 𝓤 𝓛.H} {q : Post 𝓤 𝓛.H} {d : Place} {xs : List Operand} {rest : Code} where
    open 𝓛 use {H}

    pub lends1 : K → FmC 𝓤 H 𝓛.laws C → Triple 𝓤 (C (fn₀ f)) (Called1 𝓛) → (h : S.row.Denot) (p : P.row.Denot) (l : ℕ) → Is S.row h (S.val h ∷ []) → Is P.row p (P.val p ∷ [])
        → ((i j : Item 𝓤) → Opds K 𝓛 (i ∷ j ∷ Γ) E xs (vptr l 0 ∷ P.val p ∷ [])) → Left D (F h p) K 𝓛 Γ l (λ v. lands C Λ E d v rest q)
        → Seq K 𝓛 (‵ (fat full_share S.ty l 0 (S.val h)) ∷ Γ) (runs C Λ E (seq (call (fn₀ f) xs d) rest) q)
    lends1 t fm known h p l is p-is os k = out t tt S h l is (λ ν γ. use2 𝓛 (raw ((Called1 𝓛).pre (to1 𝓛 h p l ν γ))) (goes1 𝓛 h p l ν γ p-is) $
        calls_at t fm (Called1 𝓛) known (to1 𝓛 h p l ν γ) (os _ _) (λ v.
        use1 𝓛 (later (some (λ (n : N.row.Denot). ((‵ (flft (ν ∷ []) full_share) ⊛ ‵ ftrue) ⊛ ‵ (N.row.own_val n (v ∷ []))) ⊛ raw (ensured 𝓛 (Lent1.ended S P N D F core) (Lent1.clauses S P N D F core 𝓤) (ν ∷ [], tt) (ref S h l γ, (p, tt)) tt n)))) (id⊢ 𝓤 _) $
        await t tt $ pick t (λ n. split t $ move t (1 ∷ []) $
        use1 𝓛 (some (λ (ws : Lasts (Lent1.ended S P N D F core) (ν ∷ [], tt) (ref S h l γ, (p, tt))). ‵ (lasts (Lent1.ended S P N D F core) (ν ∷ [], tt) (ref S h l γ, (p, tt)) ws) ⊛ raw (fact 𝓤 (D.both n ws.0 ≡ F h p)))) (id⊢ 𝓤 _) $ pick t (λ ws.
        split t $ move t (1 ∷ []) $ heard t (D.both n ws.0 ≡ F h p) (λ e. fsplit t $ fsplit t $ move t (1 ∷ []) $ drop t $ move t (2 ∷ []) $ split t $ move t (1 ∷ []) $ peeks t N.row (Is N.row) (shows 𝓛 N.row) n (v ∷ []) (λ n-is. drop t $
        -- [the token and true; the last state; what p leaves; the lender's part; ..]
        split t $ move t (1 ∷ 3 ∷ []) $ drop t $ drop t $ move t (0 ∷ 2 ∷ 1 ∷ []) $ back t tt S ws.0 l ν γ (λ s-is. leaves D (F h p) l (λ u. lands C Λ E d u rest q) n ws.0 v e n-is s-is k)))))))

-- RAM is passed on for good, at its own lifetime, share and ghost name: what is left is that it ends at G, and its borrow
module _ (S P N : Value) (D : Beside N S) (F : Of S P N D D.row.Denot) (G : Of S P N D (List ℕ)) (core f : Symbol) where
  abbrev pub CalledRam1 : {M : Type 1} {𝓤 : Ura M} (𝓛 : Logic 𝓤) → Contract 𝓤
  CalledRam1 {𝓤 = 𝓤} 𝓛 = triple_of 𝓛 (LentRam1.ended S P N D F G core).signature (closing 𝓛 (LentRam1.ended S P N D F G core) (LentRam1.clauses S P N D F G core 𝓤))

  module _ {M : Type 1} {𝓤 : Ura M} (𝓛 : Logic 𝓤) (h : S.row.Denot) (p : P.row.Denot) (κ : Lft) (qκ : Share) (y : MutBor (List ℕ)) (l ν : ℕ) (γ : GName) where
    open 𝓛 use {A}

    abbrev to_ram1 : (CalledRam1 𝓛).Ghost
    to_ram1 = (((ν ∷ [], (κ, tt)), (full_share, (qκ, tt)), tt, (ref S h l γ, (p, (y, tt))), (vptr l 0 ∷ [], (P.val p ∷ [], (slice_val y.ref_ptr (length y.now) ∷ [], tt)))), tt)

    goes_ram1 : Is P.row p (P.val p ∷ [])
        → ent 𝓤 (sep 𝓤 (A.lft (ν ∷ []) full_share) (sep 𝓤 (sem 𝓛 ((MutRef (named 0) (ν ∷ []) S.row).own_val (ref S h l γ) (vptr l 0 ∷ []))) (sep 𝓤 (A.lft κ qκ) (sem 𝓛 ((MutSlice (named 0) κ u8).own_val y (slice_val y.ref_ptr (length y.now) ∷ []))))))
        ((CalledRam1 𝓛).pre to_ram1)
    goes_ram1 p-is =
        qed 𝓛 (‵ (flft (ν ∷ []) full_share) ∷ ‵ ((MutRef (named 0) (ν ∷ []) S.row).own_val (ref S h l γ) (vptr l 0 ∷ [])) ∷ ‵ (flft κ qκ) ∷ ‵ ((MutSlice (named 0) κ u8).own_val y (slice_val y.ref_ptr (length y.now) ∷ [])) ∷ []) ∵
        nothing ! $ move ! (4 ∷ 0 ∷ []) $ fjoin ! $ owned ! P.row (Is P.row) (P.makes 𝓛) p _ p-is $ fjoin ! $ move ! (2 ∷ 0 ∷ []) $ fjoin ! $
        nothing ! $ move ! (3 ∷ 0 ∷ []) $ join ! $ move ! (2 ∷ 0 ∷ []) $ join ! $ join ! $ frame ! $ done !

  module _ {M : Type 1} {𝓤 : Ura M} {𝓛 : Logic 𝓤} {K : Type 0} {Γ : List (Item 𝓤)} {E : Env 𝓤 𝓛.H} {C : Calls 𝓤 𝓛.H} {Λ : Loops 𝓤 𝓛.H} {q : Post 𝓤 𝓛.H} {d : Place} {xs : List Operand} {rest : Code} where
    open 𝓛 use {H}

    pub lends_ram1 : K → FmC 𝓤 H 𝓛.laws C → Triple 𝓤 (C (fn₀ f)) (CalledRam1 𝓛) → (h : S.row.Denot) (p : P.row.Denot) (κ : Lft) (qκ : Share) (y : MutBor (List ℕ)) (l : ℕ) → Is S.row h (S.val h ∷ []) → Is P.row p (P.val p ∷ [])
        → ((i j : Item 𝓤) → Opds K 𝓛 (i ∷ j ∷ Γ) E xs (vptr l 0 ∷ P.val p ∷ slice_val y.ref_ptr (length y.now) ∷ []))
        → (length (G h p y.now) ≡ length y.now → Left D (F h p y.now) K 𝓛 (‵ (flft κ qκ) ∷ ‵ (ram_left κ y (G h p y.now)) ∷ Γ) l (λ v. lands C Λ E d v rest q))
        → Seq K 𝓛 (‵ (fat full_share S.ty l 0 (S.val h)) ∷ ‵ (flft κ qκ) ∷ ‵ ((MutSlice (named 0) κ u8).own_val y (slice_val y.ref_ptr (length y.now) ∷ [])) ∷ Γ) (runs C Λ E (seq (call (fn₀ f) xs d) rest) q)
    lends_ram1 t fm known h p κ qκ y l is p-is os k = out t tt S h l is (λ ν γ. move t (3 ∷ 4 ∷ []) $ join t $ move t (1 ∷ 2 ∷ 0 ∷ []) $ use3 𝓛 (raw ((CalledRam1 𝓛).pre (to_ram1 𝓛 h p κ qκ y l ν γ))) (goes_ram1 𝓛 h p κ qκ y l ν γ p-is) $
        calls_at t fm (CalledRam1 𝓛) known (to_ram1 𝓛 h p κ qκ y l ν γ) (os _ _) (λ v.
        use1 𝓛 (later (some (λ (n : N.row.Denot). ((‵ (flft (ν ∷ []) full_share) ⊛ ‵ (flft κ qκ) ⊛ ‵ ftrue) ⊛ ‵ (N.row.own_val n (v ∷ []))) ⊛ raw (ensured 𝓛 (LentRam1.ended S P N D F G core) (LentRam1.clauses S P N D F G core 𝓤) (ν ∷ [], (κ, tt)) (ref S h l γ, (p, (y, tt))) tt n)))) (id⊢ 𝓤 _) $
        await t tt $ pick t (λ n. split t $ move t (1 ∷ []) $
        use1 𝓛 (some (λ (ws : Lasts (LentRam1.ended S P N D F G core) (ν ∷ [], (κ, tt)) (ref S h l γ, (p, (y, tt)))). ‵ (lasts (LentRam1.ended S P N D F G core) (ν ∷ [], (κ, tt)) (ref S h l γ, (p, (y, tt))) ws)
        ⊛ raw (fact 𝓤 ((D.both n ws.0 ≡ F h p y.now) × (ws.1.1.0 ≡ G h p y.now))))) (id⊢ 𝓤 _) $ pick t (λ ws.
        split t $ move t (1 ∷ []) $ heard t ((D.both n ws.0 ≡ F h p y.now) × (ws.1.1.0 ≡ G h p y.now)) (λ e. fsplit t $ fsplit t $ move t (1 ∷ []) $ drop t $ move t (1 ∷ []) $ fsplit t $ drop t $ fsplit t $ fsplit t $ fsplit t $ move t (1 ∷ []) $ feq_l t (λ same. fjoin t $
        move t (3 ∷ []) $ split t $ move t (1 ∷ []) $ peeks t N.row (Is N.row) (shows 𝓛 N.row) n (v ∷ []) (λ n-is. drop t $
        -- [the tokens; what is had of RAM; true; the last state; the lender's part; ..]
        split t $ move t (1 ∷ []) $ split t $ move t (1 ∷ 4 ∷ []) $ drop t $ drop t $ rewrite t 2 (λ (zs : List ℕ). ‵ (ram_left κ y zs)) e.1 refl $
        move t (1 ∷ 4 ∷ 3 ∷ []) $ back t tt S ws.0 l ν γ (λ s-is.
        leaves D (F h p y.now) l (λ u. lands C Λ E d u rest q) n ws.0 v e.0 n-is s-is (k (sym (ap length e.1) ∙ same))))))))))
