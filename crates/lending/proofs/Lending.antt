-- The law of `run_session`, whatever its types: a state is kept in a local and lent to five calls, one after another.
--     let mut kept = m; let n = f(&mut kept, p, ram); let a = D { n, kept }; let o = f₁(&mut kept, ..); let b = B { o, kept }; ..
-- Of each call the law knows that it meets the contract of its shape (`Lent0`, `Lent1`, `LentRam1` of the crate `lent`), and it says that the
-- result has what each call gives at the state that the one before it left, and that RAM ends as the first call leaves it.
-- Assumes nothing.
use mathlib.Core.Path.{◌≡◌, refl, subst}
use Prim.Native.Nat.{ℕ}
use mathlib.Core.List.{[], ◌∷◌, List}
use lib.ListN.{length}
use lib.Dec.{T as Holds}
use seplogic.Ra.Ura.{Ura}
use mir.Syntax.{Symbol, fn₀, Sym, Fn, Ty, Local, named, erased, mut, ty_struct, tcons, tnil, ty_ref, local, value_local, memory_slot, place, deref, field, copy, rv_opd, addr_of, aggregate, assign, call, seq, return}
use mir.Val.{Val, WT, has_ty, vstruct, vcons, vnil}
use base.Logic.{SProp, ent, emp, via, fst∗}
use base.Fml.{GName, Lft, Share, ftrue, flft}
use prog.Wp.{Calls, Loops, WpFn, Tables}
use types.Logic.{Logic}
use contract.Monad.{fact}
use types.Kit.{‵, ◌⊛◌, ⋆, ◌$◌, ◌∵◌, !, qed, by, move, keep, drop, split, join, fsplit, fjoin, suffices, frame, done}
use types.Run.{look, init, store, forget, stop, hop, fld, from, load, addr, of_opd, and_then, no_more, assigns, land, returns, enter, alloc1, alloc0, params1, pass1, pass0, free1, free0}
use types.Part.{agg, whole, sub, look_in}
use sound.WpLaws.{FmC, fm_of, WpFn-mono}
use denote.RattleType.{RattleType, owns}
use denote.Laws.{Is, Lawful, Makes, Typed}
use denote.Memory.{pointee}
use denote.Builtin.{u8}
use denote.Ref.{MutBor}
use denote.Slice.{slice_val, MutSlice, Room, mut_slice_vals, mut_slice_Tells}
use denote.Signature.{plain, mut_slice_of}
use denote.Steps.{owned, nothing}
use denote.Triple.Statement.{Triple}
use denote.Triple.Clauses.{Ended, Clauses, closing}
use denote.Triple.Entry.{on_entry}
use denote.Triple.Spec.{Meets}
use denote.Triple.Walked.{says, Stays, stay_none, gave_slice, walk_of, Goes-none, Goes-gave_slice, Walks, ends_at, walked, walk_Meets}
use denote.Exit.{yes}
use Rattle.lent.proofs.Value.{Value, Beside, beside_ty, beside_val, beside_is, typed, beside_typed}
use Rattle.lent.proofs.LentRam1.{Of, ram_ty, ram_left}
use Rattle.lent.proofs.Lends.{Called0, Called1, CalledRam1, lends0, lends1, lends_ram1}

-- the struct of what the five calls leave
pub record Chain {N O S : Value} (D : Beside N S) (B : Beside O S) : Type 2 where
  pub row : RattleType
  pub name : Sym
  pub all : D.row.Denot → B.row.Denot → B.row.Denot → B.row.Denot → B.row.Denot → row.Denot
  pub mir_is : row.mir ≡ ty_struct name (tcons (beside_ty D) (tcons (beside_ty B) (tcons (beside_ty B) (tcons (beside_ty B) (tcons (beside_ty B) tnil))))) ∷ []
  pub lawful : {M : Type 1} {𝓤 : Ura M} (𝓛 : Logic 𝓤) → Lawful 𝓛 row
  pub makes : {M : Type 1} {𝓤 : Ura M} (𝓛 : Logic 𝓤) → Makes 𝓛 row (Is row)
  pub owes : (a : D.row.Denot) (b c d e : B.row.Denot) → Is D.row a (beside_val D a ∷ []) → Is B.row b (beside_val B b ∷ []) → Is B.row c (beside_val B c ∷ []) → Is B.row d (beside_val B d ∷ []) → Is B.row e (beside_val B e ∷ [])
      → Is row (all a b c d e) (vstruct (vcons (beside_val D a) (vcons (beside_val B b) (vcons (beside_val B c) (vcons (beside_val B d) (vcons (beside_val B e) vnil))))) ∷ [])

module _ (S Q P X Y N O : Value) (D : Beside N S) (B : Beside O S) (T : Chain D B) where
  abbrev result_ty : Ty
  result_ty = ty_struct T.name (tcons (beside_ty D) (tcons (beside_ty B) (tcons (beside_ty B) (tcons (beside_ty B) (tcons (beside_ty B) tnil)))))

  abbrev lent_ref : Local
  lent_ref = local (ty_ref erased mut (pointee S.row.written)) value_local

  module _ (F : Of S Q N D D.row.Denot) (G : Of S Q N D (List ℕ)) (F₁ : S.row.Denot → P.row.Denot → B.row.Denot) (F₂ : S.row.Denot → B.row.Denot) (F₃ : S.row.Denot → X.row.Denot → B.row.Denot) (F₄ : S.row.Denot → Y.row.Denot → B.row.Denot)
      (core core₁ core₂ core₃ core₄ f f₁ f₂ f₃ f₄ : Symbol) where
    abbrev pub function : Fn
    function = record {
      lifetimes = 1;
      outlives = [];
      ty_params = [];
      givens = 0;
      params = 6;
      locals = local result_ty value_local ∷ local S.ty value_local ∷ local Q.ty value_local ∷ local P.ty value_local ∷ local X.ty value_local ∷ local Y.ty value_local ∷ local (ram_ty (named 0)) value_local ∷ local S.ty memory_slot
          ∷ local N.ty value_local ∷ local (beside_ty D) value_local ∷ local O.ty value_local ∷ local (beside_ty B) value_local ∷ local O.ty value_local ∷ local (beside_ty B) value_local ∷ local O.ty value_local ∷ local (beside_ty B) value_local ∷ local O.ty value_local ∷ local (beside_ty B) value_local
          ∷ lent_ref ∷ local (ty_ref erased mut (pointee u8.written)) value_local ∷ local (ram_ty erased) value_local ∷ local S.ty value_local ∷ lent_ref ∷ lent_ref ∷ lent_ref ∷ lent_ref ∷ [];
      body = seq (assign (place 7 []) (rv_opd (copy (place 1 []))))
          (seq (assign (place 18 []) (addr_of (place 7 [])))
          (seq (assign (place 19 []) (addr_of (place 6 (field 0 ∷ deref (pointee u8.written) ∷ []))))
          (seq (assign (place 20 []) (aggregate (copy (place 19 []) ∷ copy (place 6 (field 1 ∷ [])) ∷ [])))
          (seq (call (fn₀ f) (copy (place 18 []) ∷ copy (place 2 []) ∷ copy (place 20 []) ∷ []) (place 8 []))
          (seq (assign (place 21 []) (rv_opd (copy (place 7 []))))
          (seq (assign (place 9 []) (aggregate (copy (place 8 []) ∷ copy (place 21 []) ∷ [])))
          (seq (assign (place 22 []) (addr_of (place 7 [])))
          (seq (call (fn₀ f₁) (copy (place 22 []) ∷ copy (place 3 []) ∷ []) (place 10 []))
          (seq (assign (place 21 []) (rv_opd (copy (place 7 []))))
          (seq (assign (place 11 []) (aggregate (copy (place 10 []) ∷ copy (place 21 []) ∷ [])))
          (seq (assign (place 23 []) (addr_of (place 7 [])))
          (seq (call (fn₀ f₂) (copy (place 23 []) ∷ []) (place 12 []))
          (seq (assign (place 21 []) (rv_opd (copy (place 7 []))))
          (seq (assign (place 13 []) (aggregate (copy (place 12 []) ∷ copy (place 21 []) ∷ [])))
          (seq (assign (place 24 []) (addr_of (place 7 [])))
          (seq (call (fn₀ f₃) (copy (place 24 []) ∷ copy (place 4 []) ∷ []) (place 14 []))
          (seq (assign (place 21 []) (rv_opd (copy (place 7 []))))
          (seq (assign (place 15 []) (aggregate (copy (place 14 []) ∷ copy (place 21 []) ∷ [])))
          (seq (assign (place 25 []) (addr_of (place 7 [])))
          (seq (call (fn₀ f₄) (copy (place 25 []) ∷ copy (place 5 []) ∷ []) (place 16 []))
          (seq (assign (place 21 []) (rv_opd (copy (place 7 []))))
          (seq (assign (place 17 []) (aggregate (copy (place 16 []) ∷ copy (place 21 []) ∷ [])))
          (seq (assign (place 0 []) (aggregate (copy (place 9 []) ∷ copy (place 11 []) ∷ copy (place 13 []) ∷ copy (place 15 []) ∷ copy (place 17 []) ∷ []))) return)))))))))))))))))))))));
    }

    abbrev pub ended : Ended
    ended = record {
      signature = record {
        lifetimes = 1;
        outlives = [];
        params = plain (λ _. S.row) ∷ plain (λ _. Q.row) ∷ plain (λ _. P.row) ∷ plain (λ _. X.row) ∷ plain (λ _. Y.row) ∷ mut_slice_of (0 ∷ []) tt (plain (λ _. u8)) ∷ [];
        result = plain (λ _. T.row);
      };
      kept = (yes, (yes, (yes, (yes, (yes, (yes, tt))))));
    }

    abbrev stayed : Stays ended.signature.params ended.kept
    stayed = (stay_none (λ _. S.row) yes, (stay_none (λ _. Q.row) yes, (stay_none (λ _. P.row) yes, (stay_none (λ _. X.row) yes, (stay_none (λ _. Y.row) yes, (gave_slice (0 ∷ []) tt (plain (λ _. u8)), tt))))))

    -- what each call leaves, of the parameters and RAM
    module _ (h : S.row.Denot) (q : Q.row.Denot) (v : P.row.Denot) (x : X.row.Denot) (y : Y.row.Denot) (ys : List ℕ) where
      abbrev left : D.row.Denot
      left = F h q ys

      abbrev left₁ : B.row.Denot
      left₁ = F₁ (D.state left) v

      abbrev left₂ : B.row.Denot
      left₂ = F₂ (B.state left₁)

      abbrev left₃ : B.row.Denot
      left₃ = F₃ (B.state left₂) x

      abbrev left₄ : B.row.Denot
      left₄ = F₄ (B.state left₃) y

      abbrev told : T.row.Denot
      told = T.all left left₁ left₂ left₃ left₄

      abbrev mach : Val
      mach = vstruct (vcons (beside_val D left) (vcons (beside_val B left₁) (vcons (beside_val B left₂) (vcons (beside_val B left₃) (vcons (beside_val B left₄) vnil)))))

    abbrev pub clauses : {M : Type 1} (𝓤 : Ura M) → Clauses 𝓤 ended
    clauses 𝓤 κs a = record {
      ghost = Unit {0};
      requires = λ _. emp 𝓤;
      ensures = λ _ r e. fact 𝓤 ((r ≡ told a.0 a.1.0 a.1.1.0 a.1.1.1.0 a.1.1.1.1.0 a.1.1.1.1.1.0.now) × (e.1.1.1.1.1.0.now ≡ G a.0 a.1.0 a.1.1.1.1.1.0.now));
    }

    module _ {M : Type 1} {𝓤 : Ura M} (𝓛 : Logic 𝓤) (κ : Lft) (qκ : Share) (h : S.row.Denot) (q : Q.row.Denot) (v : P.row.Denot) (x : X.row.Denot) (y : Y.row.Denot) (b o : ℕ) (γ : GName) (ys : List ℕ)
        (is : Is S.row h (S.val h ∷ [])) (q-is : Is Q.row q (Q.val q ∷ [])) (v-is : Is P.row v (P.val v ∷ [])) (x-is : Is X.row x (X.val x ∷ [])) (y-is : Is Y.row y (Y.val y ∷ [])) (room : Room u8 (length ys)) where
      -- RAM, and its machine value
      open 𝓛 use {H}

      abbrev ram : MutBor (List ℕ)
      ram = record { ref_ptr = (b, o); ghost_name = γ; now = ys }

      abbrev s : Val
      s = slice_val (b, o) (length ys)

      abbrev ps : S.row.Denot × (Q.row.Denot × (P.row.Denot × (X.row.Denot × (Y.row.Denot × (MutBor (List ℕ) × Unit {0})))))
      ps = (h, (q, (v, (x, (y, (ram, tt))))))

      abbrev vs : List Val × (List Val × (List Val × (List Val × (List Val × (List Val × Unit {0})))))
      vs = (S.val h ∷ [], (Q.val q ∷ [], (P.val v ∷ [], (X.val x ∷ [], (Y.val y ∷ [], (s ∷ [], tt))))))

      abbrev Post : Val → SProp 𝓤
      Post = (walk_of 𝓛 ended stayed (clauses 𝓤)).post (((κ, tt), (qκ, tt), tt, ps, vs), tt)

      abbrev m : Val
      m = mach h q v x y ys

      abbrev Result-is : Type 0
      Result-is = Is T.row (told h q v x y ys) (m ∷ [])

      abbrev Left-is : {K : Value} (C : Beside K S) → C.row.Denot → Type 0 → Type 0
      Left-is {K} C r Z = Is K.row (C.answer r) (K.val (C.answer r) ∷ []) → Is S.row (C.state r) (S.val (C.state r) ∷ []) → Z

      result_is : Left-is D (left h q v x y ys) (Left-is B (left₁ h q v x y ys) (Left-is B (left₂ h q v x y ys) (Left-is B (left₃ h q v x y ys) (Left-is B (left₄ h q v x y ys) Result-is))))
      result_is n z n₁ z₁ n₂ z₂ n₃ z₃ n₄ z₄ = T.owes _ _ _ _ _ (beside_is D _ n z) (beside_is B _ n₁ z₁) (beside_is B _ n₂ z₂) (beside_is B _ n₃ z₃) (beside_is B _ n₄ z₄)

      result_typed : Result-is → Holds (has_ty result_ty m) × WT m
      result_typed r-is = (subst (λ (τs : List Ty). Typed τs (m ∷ [])) T.mir_is ((T.lawful 𝓛).typed (told h q v x y ys) (m ∷ []) r-is)).0

      exits : length (G h q ys) ≡ length ys → Result-is → ent 𝓤 (⋆ 𝓛 ((‵ (flft κ qκ) ⊛ ‵ ftrue) ∷ ‵ (ram_left κ ram (G h q ys)) ∷ [])) (Post m)
      exits same r-is =
          qed 𝓛 ((‵ (flft κ qκ) ⊛ ‵ ftrue) ∷ ‵ (ram_left κ ram (G h q ys)) ∷ []) ∵
          suffices ! _ (ends_at 𝓛 ended stayed (clauses 𝓤) (((κ, tt), (qκ, tt), tt, ps, vs), tt) m (told h q v x y ys) (S.last h, (Q.last q, (P.last v, (X.last x, (Y.last y, (G h q ys, tt)))))) (tt, (tt, (tt, (tt, (tt, (same, tt))))))) $
          says ! (refl, refl) $ frame ! $ nothing ! $ move ! (1 ∷ 0 ∷ []) $ fjoin ! $
          owned ! Y.row (Is Y.row) (Y.makes 𝓛) y _ y-is $ fjoin ! $ owned ! X.row (Is X.row) (X.makes 𝓛) x _ x-is $ fjoin ! $ owned ! P.row (Is P.row) (P.makes 𝓛) v _ v-is $ fjoin ! $
          owned ! Q.row (Is Q.row) (Q.makes 𝓛) q _ q-is $ fjoin ! $ owned ! S.row (Is S.row) (S.makes 𝓛) h _ is $ fjoin ! $
          owned ! T.row (Is T.row) (T.makes 𝓛) (told h q v x y ys) _ r-is $ move ! (1 ∷ 0 ∷ []) $ done !

      module _ (C : Calls 𝓤 H) (Λ : Loops 𝓤 H) (fm : FmC 𝓤 H 𝓛.laws C) (known : Triple 𝓤 (C (fn₀ f)) (CalledRam1 S Q N D F G core f 𝓛)) (known₁ : Triple 𝓤 (C (fn₀ f₁)) (Called1 S P O B F₁ core₁ f₁ 𝓛)) (known₂ : Triple 𝓤 (C (fn₀ f₂)) (Called0 S O B F₂ core₂ f₂ 𝓛))
          (known₃ : Triple 𝓤 (C (fn₀ f₃)) (Called1 S X O B F₃ core₃ f₃ 𝓛)) (known₄ : Triple 𝓤 (C (fn₀ f₄)) (Called1 S Y O B F₄ core₄ f₄ 𝓛)) where
        walk : ent 𝓤 (on_entry 𝓛 ended.signature (κ, tt) (qκ, tt) ps vs) (WpFn 𝓤 H C Λ function (S.val h ∷ Q.val q ∷ P.val v ∷ X.val x ∷ Y.val y ∷ s ∷ []) Post)
        walk =
            qed 𝓛 ((‵ (flft κ qκ) ⊛ ‵ ftrue) ∷ ‵ (owns (S.row ∷ Q.row ∷ P.row ∷ X.row ∷ Y.row ∷ MutSlice (named 0) κ u8 ∷ []) ps vs) ∷ []) ∵
            -- of what the parameters own, RAM
            split ! $ move ! (2 ∷ []) $ fsplit ! $ drop ! $ fsplit ! $ drop ! $ fsplit ! $ drop ! $ fsplit ! $ drop ! $ fsplit ! $ drop ! $ fsplit ! $ move ! (2 ∷ 0 ∷ []) $
            enter ! C Λ function (S.val h ∷ Q.val q ∷ P.val v ∷ X.val x ∷ Y.val y ∷ s ∷ []) _ $
            alloc1 ! (λ l₀. alloc1 ! (λ l₁. alloc1 ! (λ l₂. alloc1 ! (λ l₃. alloc1 ! (λ l₄. alloc1 ! (λ l₅. alloc1 ! (λ l₆. alloc1 ! (λ l₇. alloc1 ! (λ l₈. alloc1 ! (λ l₉. alloc1 ! (λ l₁₀. alloc1 ! (λ l₁₁. alloc1 ! (λ l₁₂.
            alloc1 ! (λ l₁₃. alloc1 ! (λ l₁₄. alloc1 ! (λ l₁₅. alloc1 ! (λ l₁₆. alloc1 ! (λ l₁₇. alloc1 ! (λ l₁₈. alloc1 ! (λ l₁₉. alloc1 ! (λ l₂₀. alloc1 ! (λ l₂₁. alloc1 ! (λ l₂₂. alloc1 ! (λ l₂₃. alloc1 ! (λ l₂₄. alloc1 ! (λ l₂₅. alloc0 ! $ params1 ! $
            pass1 ! (init ! 48 refl (typed 𝓛 S h _ is)) $ pass1 ! (init ! 46 refl (typed 𝓛 Q q _ q-is)) $ pass1 ! (init ! 44 refl (typed 𝓛 P v _ v-is)) $ pass1 ! (init ! 42 refl (typed 𝓛 X x _ x-is)) $ pass1 ! (init ! 40 refl (typed 𝓛 Y y _ y-is)) $ pass1 ! (init ! 38 refl (tt, (tt, (record { fits = room.0 }, tt)))) $ pass0 ! $
            -- [_25; ..; _24; ..; .. _1; ..; room for _0; ..; RAM's token; RAM; ..]: _n stands at 50 - 2 n
            assigns ! (of_opd ! (load ! (from ! (stop !)) (look ! 48 refl))) (from ! (stop !)) (init ! 36 refl (typed 𝓛 S h _ is)) $
            assigns ! (addr ! (from ! (stop !))) (from ! (stop !)) (init ! 14 refl (tt, tt)) $
            assigns ! (addr ! (from ! (fld ! refl (hop ! (look_in ! 38 (sub ! 0 refl (whole !))) (stop !))))) (from ! (stop !)) (init ! 12 refl (tt, tt)) $
            assigns ! (agg ! (and_then ! (load ! (from ! (stop !)) (look ! 12 refl)) (and_then ! (load ! (from ! (fld ! refl (stop !))) (look_in ! 38 (sub ! 1 refl (whole !)))) (no_more !)))) (from ! (stop !)) (init ! 10 refl (tt, (tt, (record { fits = room.0 }, tt)))) $
            -- [_7; RAM's token; RAM; _25; ..; _24; ..; .. what frees _7; ..]: from here _n stands at 53 - 2 n, and below 7 at 52 - 2 n
            move ! (36 ∷ 52 ∷ 53 ∷ []) $ lends_ram1 S Q N D F G core f ! fm known h q κ qκ ram l₇ is q-is (λ i j. and_then ! (load ! (from ! (stop !)) (look ! 16 refl)) (and_then ! (load ! (from ! (stop !)) (look ! 47 refl)) (and_then ! (load ! (from ! (stop !)) (look ! 12 refl)) (no_more !)))) (λ same n-is s-is.
            land ! (from ! (stop !)) (init ! 37 refl (typed 𝓛 N (D.answer (left h q v x y ys)) _ n-is)) $ assigns ! (of_opd ! (load ! (from ! (stop !)) (look ! 0 refl))) (from ! (stop !)) (init ! 11 refl (typed 𝓛 S (D.state (left h q v x y ys)) _ s-is)) $
            assigns ! (agg ! (and_then ! (load ! (from ! (stop !)) (look ! 37 refl)) (and_then ! (load ! (from ! (stop !)) (look ! 11 refl)) (no_more !)))) (from ! (stop !)) (init ! 35 refl (beside_typed 𝓛 D (left h q v x y ys) _ (beside_is D (left h q v x y ys) n-is s-is))) $
            assigns ! (addr ! (from ! (stop !))) (from ! (stop !)) (init ! 9 refl (tt, tt)) $
            lends1 S P O B F₁ core₁ f₁ ! fm known₁ (D.state (left h q v x y ys)) v l₇ s-is v-is (λ i j. and_then ! (load ! (from ! (stop !)) (look ! 10 refl)) (and_then ! (load ! (from ! (stop !)) (look ! 47 refl)) (no_more !))) (λ n-is₁ s-is₁.
            land ! (from ! (stop !)) (init ! 33 refl (typed 𝓛 O (B.answer (left₁ h q v x y ys)) _ n-is₁)) $ assigns ! (of_opd ! (load ! (from ! (stop !)) (look ! 0 refl))) (from ! (stop !)) (store ! 11 refl (typed 𝓛 S (B.state (left₁ h q v x y ys)) _ s-is₁)) $
            assigns ! (agg ! (and_then ! (load ! (from ! (stop !)) (look ! 33 refl)) (and_then ! (load ! (from ! (stop !)) (look ! 11 refl)) (no_more !)))) (from ! (stop !)) (init ! 31 refl (beside_typed 𝓛 B (left₁ h q v x y ys) _ (beside_is B (left₁ h q v x y ys) n-is₁ s-is₁))) $
            assigns ! (addr ! (from ! (stop !))) (from ! (stop !)) (init ! 7 refl (tt, tt)) $
            lends0 S O B F₂ core₂ f₂ ! fm known₂ (B.state (left₁ h q v x y ys)) l₇ s-is₁ (λ i j. and_then ! (load ! (from ! (stop !)) (look ! 8 refl)) (no_more !)) (λ n-is₂ s-is₂.
            land ! (from ! (stop !)) (init ! 29 refl (typed 𝓛 O (B.answer (left₂ h q v x y ys)) _ n-is₂)) $ assigns ! (of_opd ! (load ! (from ! (stop !)) (look ! 0 refl))) (from ! (stop !)) (store ! 11 refl (typed 𝓛 S (B.state (left₂ h q v x y ys)) _ s-is₂)) $
            assigns ! (agg ! (and_then ! (load ! (from ! (stop !)) (look ! 29 refl)) (and_then ! (load ! (from ! (stop !)) (look ! 11 refl)) (no_more !)))) (from ! (stop !)) (init ! 27 refl (beside_typed 𝓛 B (left₂ h q v x y ys) _ (beside_is B (left₂ h q v x y ys) n-is₂ s-is₂))) $
            assigns ! (addr ! (from ! (stop !))) (from ! (stop !)) (init ! 5 refl (tt, tt)) $
            lends1 S X O B F₃ core₃ f₃ ! fm known₃ (B.state (left₂ h q v x y ys)) x l₇ s-is₂ x-is (λ i j. and_then ! (load ! (from ! (stop !)) (look ! 6 refl)) (and_then ! (load ! (from ! (stop !)) (look ! 45 refl)) (no_more !))) (λ n-is₃ s-is₃.
            land ! (from ! (stop !)) (init ! 25 refl (typed 𝓛 O (B.answer (left₃ h q v x y ys)) _ n-is₃)) $ assigns ! (of_opd ! (load ! (from ! (stop !)) (look ! 0 refl))) (from ! (stop !)) (store ! 11 refl (typed 𝓛 S (B.state (left₃ h q v x y ys)) _ s-is₃)) $
            assigns ! (agg ! (and_then ! (load ! (from ! (stop !)) (look ! 25 refl)) (and_then ! (load ! (from ! (stop !)) (look ! 11 refl)) (no_more !)))) (from ! (stop !)) (init ! 23 refl (beside_typed 𝓛 B (left₃ h q v x y ys) _ (beside_is B (left₃ h q v x y ys) n-is₃ s-is₃))) $
            assigns ! (addr ! (from ! (stop !))) (from ! (stop !)) (init ! 3 refl (tt, tt)) $
            lends1 S Y O B F₄ core₄ f₄ ! fm known₄ (B.state (left₃ h q v x y ys)) y l₇ s-is₃ y-is (λ i j. and_then ! (load ! (from ! (stop !)) (look ! 4 refl)) (and_then ! (load ! (from ! (stop !)) (look ! 43 refl)) (no_more !))) (λ n-is₄ s-is₄.
            land ! (from ! (stop !)) (init ! 21 refl (typed 𝓛 O (B.answer (left₄ h q v x y ys)) _ n-is₄)) $ assigns ! (of_opd ! (load ! (from ! (stop !)) (look ! 0 refl))) (from ! (stop !)) (store ! 11 refl (typed 𝓛 S (B.state (left₄ h q v x y ys)) _ s-is₄)) $
            assigns ! (agg ! (and_then ! (load ! (from ! (stop !)) (look ! 21 refl)) (and_then ! (load ! (from ! (stop !)) (look ! 11 refl)) (no_more !)))) (from ! (stop !)) (init ! 19 refl (beside_typed 𝓛 B (left₄ h q v x y ys) _ (beside_is B (left₄ h q v x y ys) n-is₄ s-is₄))) $
            assigns ! (agg ! (and_then ! (load ! (from ! (stop !)) (look ! 35 refl)) (and_then ! (load ! (from ! (stop !)) (look ! 31 refl)) (and_then ! (load ! (from ! (stop !)) (look ! 27 refl)) (and_then ! (load ! (from ! (stop !)) (look ! 23 refl)) (and_then ! (load ! (from ! (stop !)) (look ! 19 refl)) (no_more !))))))) (from ! (stop !)) (init ! 52 refl (result_typed (result_is n-is s-is n-is₁ s-is₁ n-is₂ s-is₂ n-is₃ s-is₃ n-is₄ s-is₄))) $
            returns ! (look ! 52 refl) $
            forget ! 0 refl $ forget ! 3 refl $ forget ! 5 refl $ forget ! 7 refl $ forget ! 9 refl $ forget ! 11 refl $ forget ! 13 refl $ forget ! 15 refl $ forget ! 17 refl $
            forget ! 19 refl $ forget ! 21 refl $ forget ! 23 refl $ forget ! 25 refl $ forget ! 27 refl $ forget ! 29 refl $ forget ! 31 refl $ forget ! 33 refl $ forget ! 35 refl $
            forget ! 37 refl $ forget ! 40 refl $ forget ! 42 refl $ forget ! 44 refl $ forget ! 46 refl $ forget ! 48 refl $ forget ! 50 refl $ forget ! 52 refl $
            move ! (52 ∷ 53 ∷ []) $ free1 ! $ move ! (50 ∷ 51 ∷ []) $ free1 ! $ move ! (48 ∷ 49 ∷ []) $ free1 ! $ move ! (46 ∷ 47 ∷ []) $ free1 ! $ move ! (44 ∷ 45 ∷ []) $ free1 ! $ move ! (42 ∷ 43 ∷ []) $ free1 ! $ move ! (40 ∷ 41 ∷ []) $ free1 ! $
            move ! (0 ∷ 39 ∷ []) $ free1 ! $ move ! (36 ∷ 37 ∷ []) $ free1 ! $ move ! (34 ∷ 35 ∷ []) $ free1 ! $ move ! (32 ∷ 33 ∷ []) $ free1 ! $ move ! (30 ∷ 31 ∷ []) $ free1 ! $ move ! (28 ∷ 29 ∷ []) $ free1 ! $ move ! (26 ∷ 27 ∷ []) $ free1 ! $
            move ! (24 ∷ 25 ∷ []) $ free1 ! $ move ! (22 ∷ 23 ∷ []) $ free1 ! $ move ! (20 ∷ 21 ∷ []) $ free1 ! $ move ! (18 ∷ 19 ∷ []) $ free1 ! $ move ! (16 ∷ 17 ∷ []) $ free1 ! $ move ! (14 ∷ 15 ∷ []) $ free1 ! $ move ! (12 ∷ 13 ∷ []) $ free1 ! $
            move ! (10 ∷ 11 ∷ []) $ free1 ! $ move ! (8 ∷ 9 ∷ []) $ free1 ! $ move ! (6 ∷ 7 ∷ []) $ free1 ! $ move ! (4 ∷ 5 ∷ []) $ free1 ! $ move ! (2 ∷ 3 ∷ []) $ free1 ! $
            free0 ! $ keep ! (0 ∷ 2 ∷ 1 ∷ []) $ join ! $ by ! (exits same (result_is n-is s-is n-is₁ s-is₁ n-is₂ s-is₂ n-is₃ s-is₃ n-is₄ s-is₄)))))))))))))))))))))))))))))))))

    module _ {M : Type 1} {𝓤 : Ura M} (𝓛 : Logic 𝓤) where
      open 𝓛 use {H}

      module _ (C : Calls 𝓤 H) (Λ : Loops 𝓤 H) (fm : FmC 𝓤 H 𝓛.laws C) (known : Triple 𝓤 (C (fn₀ f)) (CalledRam1 S Q N D F G core f 𝓛)) (known₁ : Triple 𝓤 (C (fn₀ f₁)) (Called1 S P O B F₁ core₁ f₁ 𝓛)) (known₂ : Triple 𝓤 (C (fn₀ f₂)) (Called0 S O B F₂ core₂ f₂ 𝓛))
          (known₃ : Triple 𝓤 (C (fn₀ f₃)) (Called1 S X O B F₃ core₃ f₃ 𝓛)) (known₄ : Triple 𝓤 (C (fn₀ f₄)) (Called1 S Y O B F₄ core₄ f₄ 𝓛)) where
        walks : Walks 𝓛 ended stayed (WpFn 𝓤 H C Λ function) (clauses 𝓤)
        walks = walked 𝓛 ended stayed (clauses 𝓤) (WpFn 𝓤 H C Λ function)
            (λ κs. ((λ z. S.val z ∷ []), ((λ z. Q.val z ∷ []), ((λ z. P.val z ∷ []), ((λ z. X.val z ∷ []), ((λ z. Y.val z ∷ []), (mut_slice_vals, tt)))))))
            (λ κs. (S.tells, (Q.tells, (P.tells, (X.tells, (Y.tells, (mut_slice_Tells (named 0) κs.0 u8, tt)))))))
            (λ κs qs bounds a _ are. via 𝓤 _ (fst∗ 𝓤 _ (emp 𝓤)) (walk 𝓛 κs.0 qs.0 a.0 a.1.0 a.1.1.0 a.1.1.1.0 a.1.1.1.1.0 a.1.1.1.1.1.0.ref_ptr.0 a.1.1.1.1.1.0.ref_ptr.1 a.1.1.1.1.1.0.ghost_name a.1.1.1.1.1.0.now
            are.0 are.1.0 are.1.1.0 are.1.1.1.0 are.1.1.1.1.0 are.1.1.1.1.1.0.0.1 C Λ fm known known₁ known₂ known₃ known₄))

      pub meets : (𝓣 : Tables 𝓤 H) → Triple 𝓤 (𝓣.C (fn₀ f)) (CalledRam1 S Q N D F G core f 𝓛) → Triple 𝓤 (𝓣.C (fn₀ f₁)) (Called1 S P O B F₁ core₁ f₁ 𝓛) → Triple 𝓤 (𝓣.C (fn₀ f₂)) (Called0 S O B F₂ core₂ f₂ 𝓛) → Triple 𝓤 (𝓣.C (fn₀ f₃)) (Called1 S X O B F₃ core₃ f₃ 𝓛)
          → Triple 𝓤 (𝓣.C (fn₀ f₄)) (Called1 S Y O B F₄ core₄ f₄ 𝓛) → Meets 𝓛 ended.signature (WpFn 𝓤 H 𝓣.C 𝓣.Λ function) (closing 𝓛 ended (clauses 𝓤))
      meets 𝓣 known known₁ known₂ known₃ known₄ =
          walk_Meets 𝓛 ended stayed (
            Goes-none 𝓛 1 (λ _. S.row) yes (λ κs. S.silent),
            (
              Goes-none 𝓛 1 (λ _. Q.row) yes (λ κs. Q.silent),
              (
                Goes-none 𝓛 1 (λ _. P.row) yes (λ κs. P.silent),
                (
                  Goes-none 𝓛 1 (λ _. X.row) yes (λ κs. X.silent),
                  (Goes-none 𝓛 1 (λ _. Y.row) yes (λ κs. Y.silent), (Goes-gave_slice 𝓛 1 0 tt (plain (λ _. u8)), tt)),
                ),
              ),
            ),
          ) (clauses 𝓤)
          (WpFn 𝓤 H 𝓣.C 𝓣.Λ function) (WpFn-mono 𝓤 H 𝓛.laws 𝓣 function) (walks 𝓣.C 𝓣.Λ (fm_of 𝓤 H 𝓛.laws 𝓣) known known₁ known₂ known₃ known₄)
