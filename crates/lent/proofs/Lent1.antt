-- One law for every call on a lent state with one more parameter, whatever its types:
--     fn f(m: &mut S, p: P) -> N { let t = core::f(*m, p); *m = t.state; t.answer }
-- where the core's `f` takes both by value and returns D, a struct of the answer and the state, in that order. Of the core the law knows that
-- its result is F of its arguments, and it says that the answer and the state that is left, as one D, are F of the state lent and of p.
-- Assumes nothing.
use Rattle.std.specs.Prelude.{◌≡◌, ℕ, List, [], ◌∷◌}
use mathlib.Core.Path.{refl, ap, ◌∙◌}
use seplogic.Ra.Ura.{Ura}
use base.Fraction.{full_share}
use mir.Syntax.{Symbol, fn₀, Fn, named, mut, ty_ref, local, value_local, place, deref, field, copy, rv_opd, assign, call, seq, return}
use mir.Val.{Val, vptr}
use base.Logic.{SProp, ent, emp, via, fst∗, snd∗, ex_e, id⊢}
use base.Fml.{GName, Lft, Share, ftrue, flft, fobs, fbor, fat}
use prog.Wp.{Calls, Loops, WpFn, Tables}
use types.Logic.{Logic, sem}
use contract.Monad.{fact}
use types.Kit.{‵, raw, ◌⊛◌, ⋆, some, later, ◌$◌, ◌∵◌, !, qed, by, move, keep, drop, use1, split, join, pick, rewrite, fsplit, fsplit3, fjoin, fjoin3, feq_i, suffices, frame, await, done}
use types.Run.{look, look_raw, init, store_raw, forget, stop, hop, fld, from, load, of_opd, and_then, no_more, assigns, land, returns, enter, alloc1, alloc0, params1, pass1, pass0, free1, free0}
use types.Part.{whole, sub, look_in}
use types.SemTy.{Body}
use sound.WpLaws.{FmC, fm_of, WpFn-mono}
use denote.RattleType.{owns}
use denote.Laws.{Is, shows}
use denote.Memory.{mem, pointee}
use denote.Ref.{MutBor, MutRef, mut_vals, mut_Tells}
use denote.Signature.{plain, mut_ref_to}
use denote.Steps.{only, owned, peeks, heard, nothing}
use denote.Triple.Statement.{Contract, Triple}
use denote.Triple.Call.{calls_at}
use denote.Triple.Clauses.{Ended, Clauses, closing, ensured, lasts}
use denote.Triple.Entry.{on_entry}
use denote.Triple.Spec.{Meets, triple_of}
use denote.Triple.Walked.{says, Stays, stay_ref, stay_none, walk_of, Goes-ref, Goes-none, Walks, ends_at, walked, walk_Meets}
use denote.Exit.{yes}
use Rattle.lent.proofs.Value.{Value, Beside, beside_ty, typed, beside_typed, takes_out, puts_back}

module _ (S P N : Value) (D : Beside N S) (F : S.row.Denot → P.row.Denot → D.row.Denot) (g : Symbol) where
  -- the function, and what is said of it
  abbrev pub function : Fn
  function = record {
    lifetimes = 1;
    outlives = [];
    ty_params = [];
    givens = 0;
    params = 2;
    locals = local N.ty value_local ∷ local (ty_ref (named 0) mut (pointee S.row.written)) value_local ∷ local P.ty value_local ∷ local (beside_ty D) value_local ∷ local S.ty value_local ∷ local S.ty value_local ∷ [];
    body = seq (assign (place 4 []) (rv_opd (copy (place 1 (deref S.ty ∷ [])))))
        (seq (call (fn₀ g) (copy (place 4 []) ∷ copy (place 2 []) ∷ []) (place 3 []))
        (seq (assign (place 5 []) (rv_opd (copy (place 3 (field 1 ∷ [])))))
        (seq (assign (place 1 (deref S.ty ∷ [])) (rv_opd (copy (place 5 []))))
        (seq (assign (place 0 []) (rv_opd (copy (place 3 (field 0 ∷ []))))) return))));
  }

  abbrev pub ended : Ended
  ended = record {
    signature = record { lifetimes = 1; outlives = []; params = mut_ref_to (0 ∷ []) tt (plain (λ _. S.row)) ∷ plain (λ _. P.row) ∷ []; result = plain (λ _. N.row) };
    kept = (yes, (yes, tt));
  }

  abbrev pub clauses : {M : Type 1} (𝓤 : Ura M) → Clauses 𝓤 ended
  clauses 𝓤 κs a = record { ghost = Unit {0}; requires = λ _. emp 𝓤; ensures = λ _ r e. fact 𝓤 (D.both r e.0.now ≡ F a.0.now a.1.0) }

  -- the same of the core's
  abbrev pub core_ended : Ended
  core_ended = record {
    signature = record { lifetimes = 0; outlives = []; params = plain (λ _. S.row) ∷ plain (λ _. P.row) ∷ []; result = plain (λ _. D.row) };
    kept = (yes, (yes, tt));
  }

  abbrev pub core_clauses : {M : Type 1} (𝓤 : Ura M) → Clauses 𝓤 core_ended
  core_clauses 𝓤 κs a = record { ghost = Unit {0}; requires = λ _. emp 𝓤; ensures = λ _ r e. fact 𝓤 (r ≡ F a.0 a.1.0) }

  abbrev pub Core : {M : Type 1} {𝓤 : Ura M} (𝓛 : Logic 𝓤) → Contract 𝓤
  Core {𝓤 = 𝓤} 𝓛 = triple_of 𝓛 core_ended.signature (closing 𝓛 core_ended (core_clauses 𝓤))

  abbrev stayed : Stays ended.signature.params ended.kept
  stayed = (stay_ref (0 ∷ []) tt (plain (λ _. S.row)), (stay_none (λ _. P.row) yes, tt))

  module _ {M : Type 1} {𝓤 : Ura M} (𝓛 : Logic 𝓤) (κ : Lft) (q : Share) (b o : ℕ) (γ : GName) (h : S.row.Denot) (p : P.row.Denot) (p-is : Is P.row p (P.val p ∷ [])) where
    open 𝓛 use {H}

    abbrev x : MutBor S.row.Denot × (P.row.Denot × Unit {0})
    x = (record { ref_ptr = (b, o); ghost_name = γ; now = h }, (p, tt))

    abbrev at : List Val × (List Val × Unit {0})
    at = (vptr b o ∷ [], (P.val p ∷ [], tt))

    abbrev Post : Val → SProp 𝓤
    Post = (walk_of 𝓛 ended stayed (clauses 𝓤)).post (((κ, tt), (q, tt), tt, x, at), tt)

    -- of what the core ensures, the clause alone: it has no `&mut`
    told : (r : D.row.Denot) → ent 𝓤 (ensured 𝓛 core_ended (core_clauses 𝓤) tt (h, (p, tt)) tt r) (fact 𝓤 (r ≡ F h p))
    told r = ex_e 𝓤 _ (λ ws. snd∗ 𝓤 (sem 𝓛 (lasts core_ended tt (h, (p, tt)) ws)) (fact 𝓤 (r ≡ F h p)))

    exits : (r : D.row.Denot) → r ≡ F h p → Is N.row (D.answer r) (N.val (D.answer r) ∷ [])
        → ent 𝓤 (⋆ 𝓛 (‵ (fobs γ (S.row.coded.code (D.state r))) ∷ ‵ (fbor κ (Body (mem S.row) b o γ)) ∷ ‵ (flft κ q) ∷ [])) (Post (N.val (D.answer r)))
    exits r e n-is =
        qed 𝓛 (‵ (fobs γ (S.row.coded.code (D.state r))) ∷ ‵ (fbor κ (Body (mem S.row) b o γ)) ∷ ‵ (flft κ q) ∷ []) ∵
        suffices ! _ (ends_at 𝓛 ended stayed (clauses 𝓤) (((κ, tt), (q, tt), tt, x, at), tt) (N.val (D.answer r)) (D.answer r) (D.state r, (P.last p, tt)) (tt, (tt, tt))) $ says ! (D.both_is r ∙ e) $
        nothing ! $ move ! (3 ∷ 0 ∷ []) $ join ! $ frame ! $ feq_i ! (List Val) (vptr b o ∷ []) (vptr b o ∷ []) refl $ fjoin3 ! $
        nothing ! $ owned ! P.row (Is P.row) (P.makes 𝓛) p _ p-is $ fjoin ! $ move ! (1 ∷ 0 ∷ []) $ fjoin ! $
        owned ! N.row (Is N.row) (N.makes 𝓛) (D.answer r) _ n-is $ move ! (1 ∷ 0 ∷ []) $ done !

    -- what the core's triple binds outside, and that the caller has what it asks
    abbrev to_core : (Core 𝓛).Ghost
    to_core = ((tt, tt, tt, (h, (p, tt)), (S.val h ∷ [], (P.val p ∷ [], tt))), tt)

    goes_core : ent 𝓤 (sem 𝓛 (S.row.own_val h (S.val h ∷ []))) ((Core 𝓛).pre to_core)
    goes_core = qed 𝓛 (‵ (S.row.own_val h (S.val h ∷ [])) ∷ []) ∵ nothing ! $ owned ! P.row (Is P.row) (P.makes 𝓛) p _ p-is $ fjoin ! $ move ! (1 ∷ 0 ∷ []) $ fjoin ! $ nothing ! $ join ! $ frame ! $ done !

    module _ (C : Calls 𝓤 H) (Λ : Loops 𝓤 H) (fm : FmC 𝓤 H 𝓛.laws C) (known : Triple 𝓤 (C (fn₀ g)) (Core 𝓛)) where
      walk : ent 𝓤 (on_entry 𝓛 ended.signature (κ, tt) (q, tt) x at) (WpFn 𝓤 H C Λ function (vptr b o ∷ P.val p ∷ []) Post)
      walk =
          qed 𝓛 ((‵ (flft κ q) ⊛ ‵ ftrue) ∷ ‵ (owns (MutRef (named 0) κ S.row ∷ P.row ∷ []) x at) ∷ []) ∵ split ! $ move ! (2 ∷ []) $ fsplit ! $ fsplit3 ! $ drop ! $ move ! (0 ∷ 1 ∷ 3 ∷ []) $
          -- [obs; the borrow; the token; …]
          enter ! C Λ function (vptr b o ∷ P.val p ∷ []) _ $
          alloc1 ! (λ l₀. alloc1 ! (λ l₁. alloc1 ! (λ l₂. alloc1 ! (λ l₃. alloc1 ! (λ l₄. alloc1 ! (λ l₅. alloc0 ! $ params1 ! $ pass1 ! (init ! 8 refl (tt, tt)) $ pass1 ! (init ! 6 refl (typed 𝓛 P p (P.val p) p-is)) $ pass0 ! $
          move ! (12 ∷ 13 ∷ 14 ∷ []) $ takes_out ! tt S {h = h} b o (λ is.
          -- [the cell; what the state owns; the open borrow; obs; auth; _5; …; _4; …; _3; …; _2; …; _1; …; room for _0; …]
          assigns ! (of_opd ! (load ! (from ! (hop ! (look ! 13 refl) (stop !))) (look_raw ! 0 refl))) (from ! (stop !)) (init ! 7 refl (typed 𝓛 S h (S.val h) is)) $
          move ! (1 ∷ []) $ use1 𝓛 (raw ((Core 𝓛).pre to_core)) goes_core $
          calls_at ! fm (Core 𝓛) known to_core (and_then ! (load ! (from ! (stop !)) (look ! 7 refl)) (and_then ! (load ! (from ! (stop !)) (look ! 11 refl)) (no_more !))) (λ v.
          use1 𝓛 (later (some (λ (r : D.row.Denot). (‵ ftrue ⊛ ‵ (D.row.own_val r (v ∷ []))) ⊛ raw (ensured 𝓛 core_ended (core_clauses 𝓤) tt (h, (p, tt)) tt r)))) (id⊢ 𝓤 _) $ await ! tt $ pick ! (λ r.
          split ! $ move ! (1 ∷ []) $ use1 𝓛 (raw (fact 𝓤 (r ≡ F h p))) (told r) $ heard ! (r ≡ F h p) (λ e. split ! $ drop ! $
          peeks ! D.row (Is D.row) (shows 𝓛 D.row) r (v ∷ []) (λ is'. drop ! $
          -- [the cell; the open borrow; obs; auth; _5; …; _4; …; room for _3; …; _2; …; _1; …; room for _0; …]
          land ! (from ! (stop !)) (init ! 8 refl (beside_typed 𝓛 D r v is')) $
          rewrite ! 8 (λ (u : Val). ‵ (fat full_share (beside_ty D) l₃ 0 u)) (ap only (D.tells r _ is')) refl $
          assigns ! (of_opd ! (load ! (from ! (fld ! refl (stop !))) (look_in ! 8 (sub ! 1 refl (whole !))))) (from ! (stop !)) (init ! 4 refl (typed 𝓛 S (D.state r) _ (D.state_is r _ is'))) $
          assigns ! (of_opd ! (load ! (from ! (stop !)) (look ! 4 refl))) (from ! (hop ! (look ! 12 refl) (stop !))) (store_raw ! 0 refl (typed 𝓛 S (D.state r) _ (D.state_is r _ is'))) $
          assigns ! (of_opd ! (load ! (from ! (fld ! refl (stop !))) (look_in ! 8 (sub ! 0 refl (whole !))))) (from ! (stop !)) (init ! 14 refl (typed 𝓛 N (D.answer r) _ (D.answer_is r _ is'))) $
          puts_back ! tt S (D.state r) b o (D.state_is r _ is') $
          -- [obs; the borrow; the token; _5; …; _4; …; _3; …; _2; …; _1; …; _0; …]
          returns ! (look ! 13 refl) $ forget ! 3 refl $ forget ! 5 refl $ forget ! 7 refl $ forget ! 9 refl $ forget ! 11 refl $ forget ! 13 refl $
          move ! (13 ∷ 14 ∷ []) $ free1 ! $ move ! (11 ∷ 12 ∷ []) $ free1 ! $ move ! (9 ∷ 10 ∷ []) $ free1 ! $ move ! (7 ∷ 8 ∷ []) $ free1 ! $ move ! (5 ∷ 6 ∷ []) $ free1 ! $ move ! (3 ∷ 4 ∷ []) $ free1 ! $ free0 ! $
          keep ! (0 ∷ 1 ∷ 2 ∷ []) $ by ! (exits r e (D.answer_is r _ is')))))))))))))

  module _ {M : Type 1} {𝓤 : Ura M} (𝓛 : Logic 𝓤) where
    open 𝓛 use {H}

    walks : (C : Calls 𝓤 H) (Λ : Loops 𝓤 H) → FmC 𝓤 H 𝓛.laws C → Triple 𝓤 (C (fn₀ g)) (Core 𝓛) → Walks 𝓛 ended stayed (WpFn 𝓤 H C Λ function) (clauses 𝓤)
    walks C Λ fm known = walked 𝓛 ended stayed (clauses 𝓤) (WpFn 𝓤 H C Λ function) (λ κs. (mut_vals, ((λ y. P.val y ∷ []), tt))) (λ κs. (mut_Tells (named 0) κs.0 S.row, (P.tells, tt)))
        (λ κs qs bounds a _ are. via 𝓤 _ (fst∗ 𝓤 _ (emp 𝓤)) (walk 𝓛 κs.0 qs.0 a.0.ref_ptr.0 a.0.ref_ptr.1 a.0.ghost_name a.0.now a.1.0 are.1.0 C Λ fm known))

    pub meets : (𝓣 : Tables 𝓤 H) → Triple 𝓤 (𝓣.C (fn₀ g)) (Core 𝓛) → Meets 𝓛 ended.signature (WpFn 𝓤 H 𝓣.C 𝓣.Λ function) (closing 𝓛 ended (clauses 𝓤))
    meets 𝓣 known =
        walk_Meets 𝓛 ended stayed (Goes-ref 𝓛 1 0 tt (plain (λ _. S.row)), (Goes-none 𝓛 1 (λ _. P.row) yes (λ κs. P.silent), tt)) (clauses 𝓤)
        (WpFn 𝓤 H 𝓣.C 𝓣.Λ function) (WpFn-mono 𝓤 H 𝓛.laws 𝓣 function) (walks 𝓣.C 𝓣.Λ (fm_of 𝓤 H 𝓛.laws 𝓣) known)
