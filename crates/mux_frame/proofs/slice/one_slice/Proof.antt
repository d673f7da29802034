use Prim.Native.Nat
use Rattle.mux_frame.proofs.slice.one_slice.Statement.{statement}
use Rattle.mux_frame.proofs.slice.one_slice.Tie as tie
use Rattle.mux_frame.proofs.slice.one_slice.Reads as reads
use Rattle.mux_frame.proofs.slice.one_slice.Lts as lts
use Rattle.mux_frame.proofs.slice.one_slice.Kinds as kinds
use Rattle.mux_frame.proofs.slice.one_slice.Code as code
use Rattle.mux_frame.specs.contracts.slice.one_slice.Key as key
use Rattle.circular_buffer.proofs.heap.HeapCircularBuffer.make_contiguous.Reads as told
use Rattle.std.proofs.Common
use Rattle.std.specs.declared.alloc.Allocator
use base.Fraction
use Rattle.std.proofs.Common.{ap, ◌∙◌, length}
use Rattle.circular_buffer.specs.Buffer.{buffer}
use denote.Triple.Clauses
use borrow.Fn.Any
use borrow.Fn.Args as Args'
use borrow.Fn.Call
use borrow.Fn.Claims
use borrow.Fn.Enter
use borrow.Fn.Frame
use borrow.Fn.Function
use borrow.Fn.Kinds
use borrow.Fn.Plain
use borrow.Fn.Result
use borrow.Fn.Run
use borrow.Fn.World
use borrow.Fn.Written
use borrow.Follows.Call as Call'
use borrow.Follows.Cited
use borrow.Follows.Closed
use borrow.Follows.Home
use borrow.Follows.Kind
use borrow.Follows.Maybe
use borrow.Follows.Rests
use borrow.Follows.So
use borrow.Follows.Step
use borrow.Join.Shorter
use borrow.Kind.MutSlice
use borrow.Rule.AtSlots
use borrow.Rule.Lent
use borrow.Rule.Lifetime
use borrow.Rule.Pass
use borrow.Rule.Scalar
use borrow.Rule.Slice.Handed
use borrow.Rule.Slice.Mut
use borrow.Rule.Slice.Relend
use borrow.Rule.Slice.Shared
use borrow.Rule.Way
use borrow.Table.Copies
use borrow.Table.Own
use borrow.Table.Reads
use borrow.Table.Referent
use borrow.Table.Row
use borrow.Table.Rows
use borrow.Table.Typed
use contract.BorrowLft
use contract.Lifetimes
use contract.Running
use denote.Array
use denote.Param
use denote.Param.Laws
use denote.RattleType
use denote.Triple.Statement
use mathlib.Core.List
use mathlib.Core.Option
use mathlib.Core.Path as Path'
use mir.MapTy
use mir.Syntax
use prog.Wp
use seplogic.Ra.Ura
use types.Logic

module _ (T : RattleType.RattleType) (L : Laws.Laws T) (g : Allocator.Ghosts T.Denot) (d e : Syntax.Dict) where
  abbrev R : RattleType.RattleType
  R = kinds.whole T L g d e

  abbrev U8 : RattleType.RattleType
  U8 = Referent.rt_f (Referent.f_int Syntax.w8)

  abbrev U : RattleType.RattleType
  U = Array.Array U8 0

  abbrev X : Type 0
  X = kinds.named T L g d e

  abbrev May : Kind.Owes R
  May = Maybe.maybe R R X

  abbrev ps : List.List (Kinds.ParamKind 2)
  ps = kinds.ps_on T L g d e

  abbrev r : Kinds.ResultKind 2
  r = kinds.r T L g d e

  abbrev xs : List.List Syntax.Ty
  xs = lts.xs T L g d e

  abbrev hs : List.List Syntax.Home
  hs = lts.hs T L g d e

  abbrev body : Syntax.Body
  body = lts.body T L g d e

  abbrev function : Syntax.Fn
  function = Function.fn_of 2 ps r xs 1 hs body

  abbrev ty-ring : Syntax.Ty
  ty-ring = lts.behind-5 T L g d e

  abbrev slice_of : Syntax.Ty → Syntax.Ty
  slice_of τ = Syntax.ty_struct (lts.name-0 T L g d e) (Syntax.tcons τ (Syntax.tcons (Syntax.ty_int Syntax.w64) Syntax.tnil))

  abbrev τ0 : Syntax.Ty
  τ0 = Syntax.ty_ref (Syntax.named 0) Syntax.imm (Syntax.ty_int Syntax.w8)

  abbrev τ1 : Syntax.Ty
  τ1 = Syntax.ty_ref (Syntax.named 0) Syntax.mut ty-ring

  abbrev τ2 : Syntax.Ty
  τ2 = Syntax.ty_ref Syntax.erased Syntax.mut (Syntax.ty_int Syntax.w8)

  abbrev τ3 : Syntax.Ty
  τ3 = Syntax.ty_ref Syntax.erased Syntax.mut ty-ring

  abbrev τ4 : Syntax.Ty
  τ4 = Syntax.ty_ref Syntax.erased Syntax.imm (Syntax.ty_int Syntax.w8)

  abbrev table : Row.Row → Row.Row → Row.Row → Row.Row → Row.Row → List.List Row.Entry
  table a b c h k = List.◌∷◌ (0, a) (List.◌∷◌ (1, b) (List.◌∷◌ (2, c) (List.◌∷◌ (3, h) (List.◌∷◌ (4, k) List.[]))))

  abbrev gone0 : Row.Row
  gone0 = Rows.any_gone (slice_of τ0)

  abbrev gone1 : Row.Row
  gone1 = Rows.any_gone τ1

  abbrev gone2 : Row.Row
  gone2 = Rows.any_gone (slice_of τ2)

  abbrev gone3 : Row.Row
  gone3 = Rows.any_gone τ3

  abbrev gone4 : Row.Row
  gone4 = Rows.any_gone τ4

  abbrev shared0 : Row.Row
  shared0 = Rows.sslice U8 τ0 0

  abbrev left2 : Row.Row
  left2 = Mut.msleft U8 τ2

  abbrev waits3 : Row.Row
  waits3 = Kind.waits R U τ3

  abbrev t0 : List.List Row.Entry
  t0 = table gone0 (Rows.mref R τ1 0) gone2 gone3 gone4

  abbrev t1 : List.List Row.Entry
  t1 = table gone0 gone1 gone2 (Rows.mref R τ3 0) gone4

  abbrev t2 : List.List Row.Entry
  t2 = table gone0 gone1 (Mut.mslice U8 τ2 0) waits3 gone4

  abbrev t3 : List.List Row.Entry
  t3 = table gone0 gone1 left2 waits3 (Relend.ssptr U8 τ4 0)

  abbrev t4 : List.List Row.Entry
  t4 = table shared0 gone1 left2 waits3 gone4

  abbrev t5 : List.List Row.Entry
  t5 = table shared0 gone1 left2 (Maybe.settled R τ3) gone4

  abbrev t6 : List.List Row.Entry
  t6 = table shared0 gone1 gone2 (Maybe.settled R τ3) gone4

  abbrev t7 : List.List Row.Entry
  t7 = table shared0 gone1 gone2 (Maybe.waits_if R R X τ3) gone4

  abbrev t8 : List.List Row.Entry
  t8 = table shared0 (Kind.owing_by R May τ1) gone2 gone3 gone4

  abbrev at_no_slots : List.List Row.Entry → Row.Cx
  at_no_slots t = record { locals = t; slots = List.[] }

  abbrev T0 : Row.Cx
  T0 = at_no_slots t0

  abbrev T1 : Row.Cx
  T1 = at_no_slots t1

  abbrev T2 : Row.Cx
  T2 = at_no_slots t2

  abbrev T3 : Row.Cx
  T3 = at_no_slots t3

  abbrev T4 : Row.Cx
  T4 = at_no_slots t4

  abbrev T5 : Row.Cx
  T5 = at_no_slots t5

  abbrev T6 : Row.Cx
  T6 = at_no_slots t6

  abbrev T7 : Row.Cx
  T7 = at_no_slots t7

  abbrev T8 : Row.Cx
  T8 = at_no_slots t8

  abbrev O0 : Typed.Outs
  O0 = record { next = Option.none; exits = List.[]; returns = Option.some T8 }

  abbrev b0 : Syntax.Body
  b0 = Syntax.assign (Syntax.place 3 List.[]) (Syntax.addr_of (Syntax.place 1 (List.◌∷◌ (Syntax.deref (lts.ty-5 T L g d e)) List.[])))

  abbrev callee : Syntax.Callee
  callee = Syntax.fn "circular_buffer::heap::HeapCircularBuffer::make_contiguous" (lts.passed-0 T L g d e)

  abbrev b1 : Syntax.Body
  b1 = Syntax.call callee (List.◌∷◌ (Syntax.copy (Syntax.place 3 List.[])) List.[]) (Syntax.place 2 List.[])

  abbrev b2 : Syntax.Body
  b2 = Syntax.assign (Syntax.place 4 List.[]) (Syntax.addr_of (Syntax.place 2 (List.◌∷◌ (Syntax.field 0) (List.◌∷◌ (Syntax.deref (Syntax.ty_int Syntax.w8)) List.[]))))

  abbrev b3 : Syntax.Body
  b3 = Syntax.assign (Syntax.place 0 List.[]) (Syntax.aggregate (List.◌∷◌ (Syntax.copy (Syntax.place 4 List.[])) (List.◌∷◌ (Syntax.copy (Syntax.place 2 (List.◌∷◌ (Syntax.field 1) List.[]))) List.[])))

  abbrev b4 : Syntax.Body
  b4 = Syntax.return

  abbrev b5 : Syntax.Body
  b5 = Syntax.seq b3 b4

  abbrev b6 : Syntax.Body
  b6 = Syntax.seq b2 b5

  abbrev b7 : Syntax.Body
  b7 = Syntax.seq b1 b6

  abbrev b8 : Syntax.Body
  b8 = Syntax.seq b0 b7

  abbrev claims : lts.Claims T L g d e
  claims = tie.the-claims T L g d e

  abbrev s0 : Typed.Mo T0 → Typed.Mo T1
  s0 = Pass.n_ref_pass T0 1 3 0 R τ1 τ3 (λ x. x)

  abbrev s1 : Typed.Both T1 T2
  s1 = lts.s2 T L g d e claims

  abbrev s2 : Typed.Mo T2 → Typed.Mo T3
  s2 = Handed.n_sl_share U8 T2 2 4 0 τ2 τ4 Row.off (λ x. x)

  abbrev s3 : Typed.Asks T3 T4
  s3 = Relend.k_sl_aggregate U8 (Relend.as_shr U8) T3 4 0 0 τ4 τ0 (λ x. x) (Scalar.o_fld 2 (List.◌∷◌ (Syntax.field 1) List.[]) (Syntax.ty_int Syntax.w64) 8 Shared.len_vᵐ)

  abbrev s4 : Typed.Both T4 T5
  s4 = Rests.k_part_rests T4 3 τ3 R U (λ x. x) (λ u. u.1.1.0.ghost_name) (λ u. u.1.1.0.now)

  abbrev s5 : Typed.Mo T5 → Typed.Mo T6
  s5 = Scalar.n_room T5 2 (slice_of τ2)

  abbrev s6 : Typed.Mo T6 → Typed.Mo T7
  s6 = Maybe.n_rested T6 3 τ3 R R X (λ x. x) (λ u. u.0)

  abbrev s7 : Typed.Mo T7 → Typed.Mo T8
  s7 = Home.k_owing_home T7 1 3 τ1 τ3 R May (λ x. x)

  abbrev at0 : Typed.TF T8 O0
  at0 = Typed.at_ret O0

  abbrev at1 : Typed.TF T7 O0
  at1 = λ Ψ. Typed.pass T7 T8 s7 (at0 Ψ)

  abbrev at2 : Typed.TF T6 O0
  at2 = λ Ψ. Typed.pass T6 T7 s6 (at1 Ψ)

  abbrev at3 : Typed.TF T5 O0
  at3 = λ Ψ. Typed.pass T5 T6 s5 (at2 Ψ)

  abbrev at4 : Typed.TF T4 O0
  at4 = λ Ψ. Typed.both s4 (at3 Ψ)

  abbrev at5 : Typed.TF T3 O0
  at5 = λ Ψ. Typed.ask s3 (at4 Ψ)

  abbrev at6 : Typed.TF T2 O0
  at6 = λ Ψ. Typed.pass T2 T3 s2 (at5 Ψ)

  abbrev at7 : Typed.TF T1 O0
  at7 = λ Ψ. Typed.both s1 (at6 Ψ)

  abbrev at8 : Typed.TF T0 O0
  at8 = λ Ψ. Typed.pass T0 T1 s0 (at7 Ψ)

  abbrev Lives : Lifetimes.Lfts 2 → Type 0
  Lives κs = BorrowLft.◌⊑◌ κs.1.0 T.lives × Unit {0}

  module _ (κs : Lifetimes.Lfts 2) (qs : Lifetimes.Shares 2) where
    abbrev at_call : List.List Row.Entry → Row.Cx
    at_call t = record {
      locals = t;
      slots = List.◌∷◌ (Row.lease κs.0 qs.0) (List.◌∷◌ (Row.lease κs.1.0 qs.1.0) (List.◌∷◌ (Row.lease List.[] Fraction.full_share) List.[]));
    }

    abbrev at_ends : List.List Row.Entry → Row.Cx
    at_ends t = record {
      locals = t;
      slots = List.◌∷◌ (Row.lease κs.0 qs.0) (List.◌∷◌ (Row.lease κs.1.0 qs.1.0) (List.◌∷◌ Row.off List.[]));
    }

    abbrev G1 : Row.Cx
    G1 = at_call t1

    abbrev Δ0 : Typed.Outs
    Δ0 = record { next = Option.none; exits = List.[]; returns = Option.some (at_ends t8) }

    module _ {M : Type 1} {𝓤 : Ura.Ura M} (𝓛 : Logic.Logic 𝓤) (𝓣 : Wp.Tables 𝓤 𝓛.H) (known : lts.Known-0 T L g d e claims 𝓛 𝓣) (lives : Lives κs) (bs : List.List Nat.ℕ) (bd : Lifetimes.AllOutlive 2 (Kinds.os_r r) κs) where
      abbrev E : Wp.Env 𝓤 𝓛.H
      E = Frame.EnvOf 𝓛 (List.◌∷◌ (Kinds.ty_r r) (Enter.tys_p ps xs)) bs

      ends : Typed.Typed 𝓛 𝓣 E (at_call t4) b4 Δ0 at4
      ends =
          Typed.g_pre_lem 𝓛 𝓣 E (at_call t4) (at_call t5) b4 Δ0 (Typed.both s4) at3
          (Rests.g_part_rests 𝓛 E (at_call t4) 3 τ3 R U (λ x. x) (λ u. u.1.1.0.ghost_name) (λ u. u.1.1.0.now)
          (Reads.as_is 𝓛 waits3)
          (Lent.Says-row 𝓛 E U t4 2 (λ y. y.ghost_name) (λ y. y.now) (λ ρ x. Step.msleft_says 𝓛 U8 τ2 ρ x (Wp.spot_of 𝓤 𝓛.H E 2).1)))
          (Typed.g_pre_lem 𝓛 𝓣 E (at_call t5) (at_call t6) b4 Δ0 (Typed.pass T5 T6 s5) at2
          (Scalar.g_room 𝓛 E (at_call t5) 2 (slice_of τ2) (Mut.room_msleft 𝓛 U8 τ2))
          (Typed.g_pre_lem 𝓛 𝓣 E (at_call t6) (at_call t7) b4 Δ0 (Typed.pass T6 T7 s6) at1
          (Maybe.g_rested 𝓛 E (at_call t6) 3 τ3 R R X (λ x. x) (λ u. u.0) (Reads.as_is 𝓛 (Maybe.settled R τ3)))
          (Typed.g_pre_lem 𝓛 𝓣 E (at_call t7) (at_call t8) b4 Δ0 (Typed.pass T7 T8 s7) at0
          (Home.g_owing_home 𝓛 E (at_call t7) 1 3 τ1 τ3 R May (λ x. x) (Reads.room_gone 𝓛 τ1) (Reads.as_is 𝓛 (Maybe.waits_if R R X τ3)))
          (Typed.g_pre_lem 𝓛 𝓣 E (at_call t8) (at_ends t8) b4 Δ0 (λ Ψ. Ψ) at0
          (Lifetime.g_forget 𝓛 E (at_call t8) 2 (Row.lease List.[] Fraction.full_share) Path'.refl)
          (Typed.t_return 𝓛 𝓣 E Δ0 tt)))))

      shares : Typed.Typed 𝓛 𝓣 E (at_call t2) b6 Δ0 at6
      shares =
          Typed.s_seq 𝓛 𝓣 E (at_call t2) (at_call t3) b2 b5 Δ0 (Typed.pass T2 T3 s2) at5
          (Handed.t_sl_share 𝓛 E U8 𝓣 (Referent.laws_f (Referent.f_int Syntax.w8)) (at_call t2) 2 4 0 τ2 τ4 (Row.lease κs.0 qs.0) 0 (λ x. x)
          (Copies.Shares-copy 𝓛 (Copies.c_rf (Referent.f_int Syntax.w8)))
          (Reads.as_is 𝓛 (Mut.mslice U8 τ2 0)) (Reads.room_gone 𝓛 τ4) Path'.refl tt Path'.refl Path'.refl Path'.refl (λ b o. tt))
          (Typed.s_seq 𝓛 𝓣 E (at_call t3) (at_call t4) b3 b4 Δ0 (Typed.ask s3) at4
          (Relend.t_sl_aggregate 𝓛 E U8 𝓣 (Relend.as_shr U8) (at_call t3) 4 0 0 τ4 τ0 (λ x. x)
          (Scalar.o_fld 2 (List.◌∷◌ (Syntax.field 1) List.[]) (Syntax.ty_int Syntax.w64) 8 Shared.len_vᵐ)
          (Reads.as_is 𝓛 (Relend.ssptr U8 τ4 0)) (Reads.room_gone 𝓛 (slice_of τ0))
          (Mut.reads_msleft_len 𝓛 U8 τ2 8 Path'.refl, Path'.refl) Path'.refl Path'.refl (λ b o k. tt))
          ends)

      calls : Typed.Typed 𝓛 𝓣 E G1 b7 Δ0 at7
      calls =
          Typed.s_seq 𝓛 𝓣 E G1 (at_call t2) b1 b6 Δ0 (Typed.both s1) at6
          (Call'.owes_call 3 (lts.whole-0 T L g d e) (Kind.following (lts.whole-0 T L g d e) (lts.part-0 T L g d e)) (lts.lender-0 T L g d e) (lts.rest-0 T L g d e) (lts.r-0 T L g d e) (Cited.tie_of 3 (lts.whole-0 T L g d e) (lts.part-0 T L g d e) (lts.lender-0 T L g d e) (lts.rest-0 T L g d e) (lts.r-0 T L g d e) (lts.named-0 T L g d e) claims.2)
          (λ κs a. BorrowLft.◌⊑◌ κs.1.1.0 T.lives → claims.0 κs a) claims.1
          G1 (record { pos = 3; ty = τ3; ref = λ x. x }, tt) 2 (List.◌∷◌ 0 (List.◌∷◌ 0 (List.◌∷◌ 1 List.[]))) (slice_of τ2) 𝓛 𝓣 E
          (Plain.t_call_plain_by_Pin 𝓛 𝓣 3 (lts.ps_on-0 T L g d e) (lts.r-0 T L g d e) claims.0
          (Call'.WithBy 3 (lts.whole-0 T L g d e) (Kind.following (lts.whole-0 T L g d e) (lts.part-0 T L g d e)) (lts.lender-0 T L g d e) (lts.rest-0 T L g d e) (lts.r-0 T L g d e) (Cited.tie_of 3 (lts.whole-0 T L g d e) (lts.part-0 T L g d e) (lts.lender-0 T L g d e) (lts.rest-0 T L g d e) (lts.r-0 T L g d e) (lts.named-0 T L g d e) claims.2) claims.0 claims.1)
          callee known
          (λ κs. BorrowLft.◌⊑◌ κs.1.1.0 T.lives) E (λ pos β. β)
          G1 (record { pos = 3; ty = τ3; ref = λ x. x }, tt) 2 (List.◌∷◌ 0 (List.◌∷◌ 0 (List.◌∷◌ 1 List.[])))
          (Call.within_lease 𝓛 1 G1.slots κs.1.0 qs.1.0 Path'.refl T.lives lives.0)
          (Call.sub_id 𝓛 G1.slots)
          (Reads.as_is 𝓛 (Rows.mref R τ3 0), Reads.reads_mref 𝓛 R τ3 0, Path'.refl, tt)
          (Reads.room_gone 𝓛 (slice_of τ2))
          (tt, (tt, (tt, tt)))
          (Shorter.Told-bounds 𝓛 3 G1.slots (List.◌∷◌ 0 (List.◌∷◌ 0 (List.◌∷◌ 1 List.[]))) (Kinds.os_r (lts.r-0 T L g d e))
          (Way.Told-and 𝓛 G1.slots (Shorter.Below 0 0) (λ ρ. Shorter.Below 1 0 ρ × Unit) (Shorter.told_same 𝓛 G1.slots 0)
          (Way.Told-and 𝓛 G1.slots (Shorter.Below 1 0) (λ ρ. Unit)
          (Shorter.Told-Below 𝓛 G1.slots 1 0 κs.1.0 κs.0 (Call.pin_lease 𝓛 1 G1.slots κs.1.0 qs.1.0 Path'.refl) (Call.pin_lease 𝓛 0 G1.slots κs.0 qs.0 Path'.refl) bd.0)
          (Own.Told-none 𝓛 G1.slots))))
          Path'.refl
          (λ κs' x v i. Result.res_typed 𝓛 3 κs' (MutSlice.r_mut_s U8 0 tt) x v i (List.◌∷◌ 0 (List.◌∷◌ 0 (List.◌∷◌ 1 List.[]))) (slice_of τ2) (Path'.refl, λ b o k. tt))))
          shares

      pub typed : Typed.Typed 𝓛 𝓣 E (Function.Γin 2 ps r xs 1 κs qs) b8 (Function.Δret 2 ps r xs 1 κs qs) at8
      typed =
          Typed.g_pre_lem 𝓛 𝓣 E (at_ends t0) (at_call t0) b8 Δ0 (λ Ψ. Ψ) at8
          (Lifetime.g_static 𝓛 E (at_ends t0) 2 (tt, (tt, (tt, (tt, (tt, tt))))))
          (Typed.s_seq 𝓛 𝓣 E (at_call t0) G1 b0 b7 Δ0 (Typed.pass T0 T1 s0) at7
          (Pass.t_ref_pass 𝓛 E 𝓣 (at_call t0) 1 3 0 R (lts.ty-5 T L g d e) τ1 τ3 (λ x. x) (Reads.as_is 𝓛 (Rows.mref R τ1 0)) (Reads.room_gone 𝓛 τ3) Path'.refl Path'.refl (λ b o. tt))
          calls)

  abbrev owed : Closed.Owed 2 R May (kinds.lender T L g d e) (kinds.rest T L g d e) r
  owed = So.owed_so 2 R R X (kinds.lender T L g d e) (kinds.rest T L g d e) r (AtSlots.one_type 2 X) (reads.how T L g d e)

  abbrev Post : Kinds.Out 2 ps r
  Post = Closed.Owing 2 R May (kinds.lender T L g d e) (kinds.rest T L g d e) r owed (reads.Post T L g d e)

  call_may : (κs : Lifetimes.Lfts 3) → BorrowLft.◌⊑◌ κs.1.1.0 T.lives → BorrowLft.◌⊑◌ κs.1.0 Common.[] × BorrowLft.◌⊑◌ κs.1.1.0 T.lives
  call_may κs h = (BorrowLft.⊑_static κs.1.0, BorrowLft.⊑_trans κs.1.1.0 κs.1.1.0 T.lives (BorrowLft.⊑_refl κs.1.1.0) h)

  asked : (κs : Lifetimes.Lfts 2) (qs : Lifetimes.Shares 2) (a : Kinds.Dens κs ps) → Kinds.GoodsP κs ps a → reads.Pre T L g d e κs a → (bs : List.List Nat.ℕ) → at8 (Any.want_q 2 ps r xs 1 κs qs a (Post κs a)) (Function.init 2 ps r xs 1 κs qs a)
  asked κs qs a good pre bs = (
    call_may,
    λ given.
        let u : Typed.Mo T1 = s0 (Function.init 2 ps r xs 1 κs qs a) in
        let passed = Args'.args_v given.0 (lts.ps-0 T L g d e) t1 (lts.passed2 T L g d e) u in
        let says = told.learnt-apart (lts.arg-0-0 T L g d e given.0) (lts.arg-0-1 T L g d e given.0) (lts.laws-0-0 T L g d e given.0) (lts.laws-0-1 T L g d e given.0) g d e given.0 passed given.1 (Clauses.at_exit (Kinds.ended_of 3 (lts.ps-0 T L g d e) (lts.r-0 T L g d e)) given.0 passed given.2) given.5 in
        let whole = says.same_len given.1.now (ap length says.value) ∙ says.value in
        (Path'.refl, (Path'.refl, λ γ. ((Path'.refl, tt), ((Path'.refl, (λ w. tt), λ i. buffer (whole i) a.0.now.capacity), says.value)))),
  )

  module _ {M : Type 1} (𝓤 : Ura.Ura M) (𝓛 : Logic.Logic 𝓤) (𝓣 : Wp.Tables 𝓤 𝓛.H) (known : lts.Known-0 T L g d e claims 𝓛 𝓣) where
    pub spec : Statement.Triple 𝓤 (Wp.WpFn 𝓤 𝓛.H 𝓣.C 𝓣.Λ (Function.fn_of 2 ps r xs 1 hs body)) (Function.plain_of 𝓛 2 ps r (reads.Pre T L g d e) Post)
    spec =
        Plain.t_fn_plain_given 𝓛 𝓣 2 ps r xs 1 hs body (λ κs qs bs. at8) Lives
        (λ κs qs bs bd lives. typed κs qs 𝓛 𝓣 known lives bs bd)
        (reads.Pre T L g d e) Post
        (λ κs a pre. (Claims.All-at 0 (reads.pre_read T L g d e κs a tt).tells pre, tt))
        asked

abbrev put_in : (T : RattleType.RattleType) (d e : Syntax.Dict) → Syntax.Args
put_in T d e = Param.bounded (List.◌∷◌ Syntax.a_type List.[]) (T, tt) (Syntax.dcons d (Syntax.dcons e Syntax.dnil))

same_locals : (T : RattleType.RattleType) (L : Laws.Laws T) (g : Allocator.Ghosts T.Denot) (d e : Syntax.Dict) → Path'.◌≡◌ (function T L g d e).locals (MapTy.inst_fn (put_in T d e) code.function).locals
unfolding Running.tables_of
same_locals T L g d e = Path'.refl

same_body : (T : RattleType.RattleType) (L : Laws.Laws T) (g : Allocator.Ghosts T.Denot) (d e : Syntax.Dict) → Path'.◌≡◌ (function T L g d e).body (MapTy.inst_fn (put_in T d e) code.function).body
unfolding Running.tables_of
same_body T L g d e = Path'.refl

pub one_slice_spec : {M : Type 1} → statement M
unfolding Running.tables_of
one_slice_spec {M = M} 𝓤 𝓛 𝓜 𝓡 wired T L g d e met met' =
    let w : World.World = record { M = M; 𝓤 = 𝓤; 𝓛 = 𝓛; 𝓜 = 𝓜; 𝓡 = 𝓡 } in
    Closed.close_follows 2 (R T L g d e) (May T L g d e) (kinds.lender T L g d e) (kinds.rest T L g d e) (r T L g d e) (owed T L g d e)
    (reads.Ghost T L g d e) (reads.requires T L g d e) (reads.ensures T L g d e) (reads.pre_read T L g d e) (reads.Pinned T L g d e) (reads.Owned T L g d e) (reads.post_read T L g d e)
    w 𝓡.env (key.name (put_in T d e)) (MapTy.inst_fn (put_in T d e) code.function) (code.unfolded 𝓤 𝓛.H 𝓜 𝓡 wired (T, tt) d e)
    (λ κs a g. tt) (λ κs. reads.owns T L g d e κs w) (reads.passes T L g d e w)
    (λ ghost. Written.at_code 𝓤 𝓛.H (Run.Over 𝓛 𝓜 𝓡 𝓡.env).C (Run.Over 𝓛 𝓜 𝓡 𝓡.env).Λ (function T L g d e) (MapTy.inst_fn (put_in T d e) code.function)
    (same_locals T L g d e) (same_body T L g d e)
    (Function.plain_of 𝓛 2 (ps T L g d e) (r T L g d e) (reads.Pre T L g d e) (Post T L g d e))
    (spec T L g d e 𝓤 𝓛 (Run.Over 𝓛 𝓜 𝓡 𝓡.env) (tie.known-0 𝓤 𝓛 𝓜 𝓡 wired T L g d e met met')))
