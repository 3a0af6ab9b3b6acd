-- The law of `translate_kept`, whatever its types: a state is kept in a local and lent to one call, with RAM passed on beside it.
--     let mut kept = m; let n = f(&mut kept, p, ram); D { n, kept }
-- Of `f` the law knows that it meets the contract of its shape (`LentRam1` of the crate `lent`); it says that the whole meets the by-value
-- contract that `f` was made from.
-- Assumes nothing.
use mathlib.Core.Path.{◌≡◌, refl}
use Prim.Native.Nat.{ℕ}
use mathlib.Core.List.{[], ◌∷◌, List}
use lib.ListN.{length}
use seplogic.Ra.Ura.{Ura}
use mir.Syntax.{Symbol, fn₀, Fn, named, erased, mut, ty_ref, local, value_local, memory_slot, place, deref, field, copy, rv_opd, addr_of, aggregate, assign, call, seq, return}
use mir.Val.{Val}
use base.Logic.{SProp, ent, emp, via, fst∗}
use base.Fml.{GName, Lft, Share, ftrue, flft}
use prog.Wp.{Calls, Loops, WpFn, Tables}
use types.Logic.{Logic}
use types.Kit.{‵, ◌⊛◌, ⋆, ◌$◌, ◌∵◌, !, qed, by, move, keep, drop, split, join, fsplit, fjoin, suffices, frame, done}
use types.Run.{look, init, forget, stop, hop, fld, from, load, addr, of_opd, and_then, no_more, assigns, land, returns, enter, alloc1, alloc0, params1, pass1, pass0, free1, free0}
use types.Part.{agg, whole, sub, look_in}
use sound.WpLaws.{FmC, fm_of, WpFn-mono}
use denote.RattleType.{owns}
use denote.Laws.{Is}
use denote.Memory.{pointee}
use denote.Builtin.{u8}
use denote.Ref.{MutBor}
use denote.Slice.{slice_val, MutSlice, Room, mut_slice_vals, mut_slice_Tells}
use denote.Signature.{plain}
use denote.Steps.{owned, nothing}
use denote.Triple.Statement.{Triple}
use denote.Triple.Clauses.{closing}
use denote.Triple.Entry.{on_entry}
use denote.Triple.Spec.{Meets}
use denote.Triple.Walked.{says, Stays, stay_none, gave_slice, walk_of, Goes-none, Goes-gave_slice, Walks, ends_at, walked, walk_Meets}
use denote.Exit.{yes}
use Rattle.lent.proofs.Value.{Value, Beside, beside_ty, beside_val, beside_is, typed, beside_typed}
use Rattle.lent.proofs.LentRam1.{Of, ram_ty, ram_left, core_ended, core_clauses}
use Rattle.lent.proofs.Lends.{CalledRam1, lends_ram1}

module _ (S P N : Value) (D : Beside N S) (F : Of S P N D D.row.Denot) (G : Of S P N D (List ℕ)) (core f : Symbol) where
  abbrev pub function : Fn
  function = record {
    lifetimes = 1;
    outlives = [];
    ty_params = [];
    givens = 0;
    params = 3;
    locals = local (beside_ty D) value_local ∷ local S.ty value_local ∷ local P.ty value_local ∷ local (ram_ty (named 0)) value_local ∷ local S.ty memory_slot ∷ local N.ty value_local
        ∷ local (ty_ref erased mut (pointee S.row.written)) value_local ∷ local (ty_ref erased mut (pointee u8.written)) value_local ∷ local (ram_ty erased) value_local ∷ local S.ty value_local ∷ [];
    body = seq (assign (place 4 []) (rv_opd (copy (place 1 []))))
        (seq (assign (place 6 []) (addr_of (place 4 [])))
        (seq (assign (place 7 []) (addr_of (place 3 (field 0 ∷ deref (pointee u8.written) ∷ []))))
        (seq (assign (place 8 []) (aggregate (copy (place 7 []) ∷ copy (place 3 (field 1 ∷ [])) ∷ [])))
        (seq (call (fn₀ f) (copy (place 6 []) ∷ copy (place 2 []) ∷ copy (place 8 []) ∷ []) (place 5 []))
        (seq (assign (place 9 []) (rv_opd (copy (place 4 []))))
        (seq (assign (place 0 []) (aggregate (copy (place 5 []) ∷ copy (place 9 []) ∷ []))) return))))));
  }

  abbrev stayed : Stays (core_ended S P N D F G core).signature.params (core_ended S P N D F G core).kept
  stayed = (stay_none (λ _. S.row) yes, (stay_none (λ _. P.row) yes, (gave_slice (0 ∷ []) tt (plain (λ _. u8)), tt)))

  module _ {M : Type 1} {𝓤 : Ura M} (𝓛 : Logic 𝓤) (κ : Lft) (qκ : Share) (h : S.row.Denot) (p : P.row.Denot) (b o : ℕ) (γ : GName) (ys : List ℕ)
      (is : Is S.row h (S.val h ∷ [])) (p-is : Is P.row p (P.val p ∷ [])) (room : Room u8 (length ys)) where
    -- RAM, and its machine value
    open 𝓛 use {H}

    abbrev ram : MutBor (List ℕ)
    ram = record { ref_ptr = (b, o); ghost_name = γ; now = ys }

    abbrev s : Val
    s = slice_val (b, o) (length ys)

    abbrev ps : S.row.Denot × (P.row.Denot × (MutBor (List ℕ) × Unit {0}))
    ps = (h, (p, (ram, tt)))

    abbrev vs : List Val × (List Val × (List Val × Unit {0}))
    vs = (S.val h ∷ [], (P.val p ∷ [], (s ∷ [], tt)))

    abbrev Post : Val → SProp 𝓤
    Post = (walk_of 𝓛 (core_ended S P N D F G core) stayed (core_clauses S P N D F G core 𝓤)).post (((κ, tt), (qκ, tt), tt, ps, vs), tt)

    -- what the call leaves, and its machine value
    abbrev told : D.row.Denot
    told = F h p ys

    abbrev m : Val
    m = beside_val D told

    exits : length (G h p ys) ≡ length ys → Is D.row told (m ∷ []) → ent 𝓤 (⋆ 𝓛 ((‵ (flft κ qκ) ⊛ ‵ ftrue) ∷ ‵ (ram_left κ ram (G h p ys)) ∷ [])) (Post m)
    exits same r-is =
        qed 𝓛 ((‵ (flft κ qκ) ⊛ ‵ ftrue) ∷ ‵ (ram_left κ ram (G h p ys)) ∷ []) ∵
        suffices ! _ (ends_at 𝓛 (core_ended S P N D F G core) stayed (core_clauses S P N D F G core 𝓤) (((κ, tt), (qκ, tt), tt, ps, vs), tt) m told (S.last h, (P.last p, (G h p ys, tt))) (tt, (tt, (same, tt)))) $
        says ! (refl, refl) $ frame ! $ nothing ! $ move ! (1 ∷ 0 ∷ []) $ fjoin ! $
        owned ! P.row (Is P.row) (P.makes 𝓛) p _ p-is $ fjoin ! $ owned ! S.row (Is S.row) (S.makes 𝓛) h _ is $ fjoin ! $
        owned ! D.row (Is D.row) (D.makes 𝓛) told _ r-is $ move ! (1 ∷ 0 ∷ []) $ done !

    module _ (C : Calls 𝓤 H) (Λ : Loops 𝓤 H) (fm : FmC 𝓤 H 𝓛.laws C) (known : Triple 𝓤 (C (fn₀ f)) (CalledRam1 S P N D F G core f 𝓛)) where
      walk : ent 𝓤 (on_entry 𝓛 (core_ended S P N D F G core).signature (κ, tt) (qκ, tt) ps vs) (WpFn 𝓤 H C Λ function (S.val h ∷ P.val p ∷ s ∷ []) Post)
      walk =
          qed 𝓛 ((‵ (flft κ qκ) ⊛ ‵ ftrue) ∷ ‵ (owns (S.row ∷ P.row ∷ MutSlice (named 0) κ u8 ∷ []) ps vs) ∷ []) ∵
          -- of what the parameters own, RAM
          split ! $ move ! (2 ∷ []) $ fsplit ! $ drop ! $ fsplit ! $ drop ! $ fsplit ! $ move ! (2 ∷ 0 ∷ []) $
          enter ! C Λ function (S.val h ∷ P.val p ∷ s ∷ []) _ $
          alloc1 ! (λ l₀. alloc1 ! (λ l₁. alloc1 ! (λ l₂. alloc1 ! (λ l₃. alloc1 ! (λ l₄. alloc1 ! (λ l₅. alloc1 ! (λ l₆. alloc1 ! (λ l₇. alloc1 ! (λ l₈. alloc1 ! (λ l₉. alloc0 ! $ params1 ! $
          pass1 ! (init ! 16 refl (typed 𝓛 S h _ is)) $ pass1 ! (init ! 14 refl (typed 𝓛 P p _ p-is)) $ pass1 ! (init ! 12 refl (tt, (tt, (record { fits = room.0 }, tt)))) $ pass0 ! $
          -- [_9; ..; _8; ..; .. _1; ..; room for _0; ..; RAM's token; RAM; ..]: _n stands at 18 - 2 n
          assigns ! (of_opd ! (load ! (from ! (stop !)) (look ! 16 refl))) (from ! (stop !)) (init ! 10 refl (typed 𝓛 S h _ is)) $
          assigns ! (addr ! (from ! (stop !))) (from ! (stop !)) (init ! 6 refl (tt, tt)) $
          assigns ! (addr ! (from ! (fld ! refl (hop ! (look_in ! 12 (sub ! 0 refl (whole !))) (stop !))))) (from ! (stop !)) (init ! 4 refl (tt, tt)) $
          assigns ! (agg ! (and_then ! (load ! (from ! (stop !)) (look ! 4 refl)) (and_then ! (load ! (from ! (fld ! refl (stop !))) (look_in ! 12 (sub ! 1 refl (whole !)))) (no_more !)))) (from ! (stop !)) (init ! 2 refl (tt, (tt, (record { fits = room.0 }, tt)))) $
          -- [_4; RAM's token; RAM; _9; ..; _8; ..; .. what frees _4; ..]: from here _n stands at 21 - 2 n, and below 4 at 20 - 2 n
          move ! (10 ∷ 20 ∷ 21 ∷ []) $ lends_ram1 S P N D F G core f ! fm known h p κ qκ ram l₄ is p-is (λ i j. and_then ! (load ! (from ! (stop !)) (look ! 8 refl)) (and_then ! (load ! (from ! (stop !)) (look ! 15 refl)) (and_then ! (load ! (from ! (stop !)) (look ! 4 refl)) (no_more !)))) (λ same n-is s-is.
          land ! (from ! (stop !)) (init ! 11 refl (typed 𝓛 N (D.answer told) _ n-is)) $ assigns ! (of_opd ! (load ! (from ! (stop !)) (look ! 0 refl))) (from ! (stop !)) (init ! 3 refl (typed 𝓛 S (D.state told) _ s-is)) $
          assigns ! (agg ! (and_then ! (load ! (from ! (stop !)) (look ! 11 refl)) (and_then ! (load ! (from ! (stop !)) (look ! 3 refl)) (no_more !)))) (from ! (stop !)) (init ! 20 refl (beside_typed 𝓛 D told _ (beside_is D told n-is s-is))) $
          returns ! (look ! 20 refl) $
          forget ! 0 refl $ forget ! 3 refl $ forget ! 5 refl $ forget ! 7 refl $ forget ! 9 refl $ forget ! 11 refl $ forget ! 14 refl $ forget ! 16 refl $ forget ! 18 refl $ forget ! 20 refl $
          move ! (20 ∷ 21 ∷ []) $ free1 ! $ move ! (18 ∷ 19 ∷ []) $ free1 ! $ move ! (16 ∷ 17 ∷ []) $ free1 ! $ move ! (14 ∷ 15 ∷ []) $ free1 ! $ move ! (0 ∷ 13 ∷ []) $ free1 ! $
          move ! (10 ∷ 11 ∷ []) $ free1 ! $ move ! (8 ∷ 9 ∷ []) $ free1 ! $ move ! (6 ∷ 7 ∷ []) $ free1 ! $ move ! (4 ∷ 5 ∷ []) $ free1 ! $ move ! (2 ∷ 3 ∷ []) $ free1 ! $
          free0 ! $ keep ! (0 ∷ 2 ∷ 1 ∷ []) $ join ! $ by ! (exits same (beside_is D told n-is s-is)))))))))))))

  module _ {M : Type 1} {𝓤 : Ura M} (𝓛 : Logic 𝓤) where
    open 𝓛 use {H}

    walks : (C : Calls 𝓤 H) (Λ : Loops 𝓤 H) → FmC 𝓤 H 𝓛.laws C → Triple 𝓤 (C (fn₀ f)) (CalledRam1 S P N D F G core f 𝓛) → Walks 𝓛 (core_ended S P N D F G core) stayed (WpFn 𝓤 H C Λ function) (core_clauses S P N D F G core 𝓤)
    walks C Λ fm known = walked 𝓛 (core_ended S P N D F G core) stayed (core_clauses S P N D F G core 𝓤) (WpFn 𝓤 H C Λ function)
        (λ κs. ((λ z. S.val z ∷ []), ((λ z. P.val z ∷ []), (mut_slice_vals, tt)))) (λ κs. (S.tells, (P.tells, (mut_slice_Tells (named 0) κs.0 u8, tt))))
        (λ κs qs bounds a _ are. via 𝓤 _ (fst∗ 𝓤 _ (emp 𝓤)) (walk 𝓛 κs.0 qs.0 a.0 a.1.0 a.1.1.0.ref_ptr.0 a.1.1.0.ref_ptr.1 a.1.1.0.ghost_name a.1.1.0.now
        are.0 are.1.0 are.1.1.0.0.1 C Λ fm known))

    pub meets : (𝓣 : Tables 𝓤 H) → Triple 𝓤 (𝓣.C (fn₀ f)) (CalledRam1 S P N D F G core f 𝓛) → Meets 𝓛 (core_ended S P N D F G core).signature (WpFn 𝓤 H 𝓣.C 𝓣.Λ function) (closing 𝓛 (core_ended S P N D F G core) (core_clauses S P N D F G core 𝓤))
    meets 𝓣 known =
        walk_Meets 𝓛 (core_ended S P N D F G core) stayed
        (Goes-none 𝓛 1 (λ _. S.row) yes (λ κs. S.silent), (Goes-none 𝓛 1 (λ _. P.row) yes (λ κs. P.silent), (Goes-gave_slice 𝓛 1 0 tt (plain (λ _. u8)), tt))) (core_clauses S P N D F G core 𝓤)
        (WpFn 𝓤 H 𝓣.C 𝓣.Λ function) (WpFn-mono 𝓤 H 𝓛.laws 𝓣 function) (walks 𝓣.C 𝓣.Λ (fm_of 𝓤 H 𝓛.laws 𝓣) known)
