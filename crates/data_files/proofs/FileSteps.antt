-- The steps of one file: what it gives and takes, and what its connection does.
use Rattle.std.specs.Prelude.{◌≡◌, ◌⊎◌, ℕ, ◌+◌, ◌<◌, ◌≤◌, ◌==◌, Bool, true, false, List, [], ◌∷◌, ◌++◌, length, take, Result, Ok, Err, IfOk, OnOk, OnErr, is_err, refl}
use Rattle.std.specs.List.{list_all}
use Rattle.std.proofs.Common.{ap, arith, sym, ◌∙◌, subst, inl, inr, true≢false}
use Rattle.std.proofs.Math.Seq.{take-length}
use Rattle.std.proofs.lemmas.Bool.{and_from, eq-eqb}
use Rattle.std.proofs.lemmas.List.{append_assoc, append-nil, length-append}
use Rattle.mux_station.specs.declared.role.Role.{Role}
use Rattle.serial_line.specs.Counts.{one_more, counted_if_none}
use Rattle.serial_line.specs.LineViews.{LineView, after_fault, after_read}
use Rattle.modem_data.specs.Passing.{Pass, Gave, Read}
use Rattle.serial_line.specs.declared.line.LineFault.{LineFault}
use Rattle.modem_data.specs.declared.error.DataError.{DataError}
use Rattle.modem_data.specs.Hops.{Hop, Hops, Passed, passes}
use Rattle.modem_data_line.specs.DataLines.{Before, DataLineState, LineFits}
use Rattle.data_files.specs.Files.{FileFits, FileState, all_given, all_read}
use Rattle.data_files.specs.Moves.{FileMoves, GaveFirst, is_of_file}
use Rattle.data_files.proofs.Hopping.{all_both}

-- a connection compares equal to itself
pub same_dlci : (d : ℕ) → (d == d) ≡ true
same_dlci d = eq-eqb d d refl

-- a call of the lanes is one hop of the line
pub lane_leads : {X : Type 0} (look : X → LineView) (v w : DataLineState X) (a : Pass) → Hops v.relay w.relay (Passed a) → w ≡ record v { relay = w.relay }
    → (role : Role) (n1 : ℕ) (ds : List ℕ) (b : Before) (past : List Hop) → LineFits look role n1 ds b v past → LineFits look role n1 ds b w (Passed a ∷ past)
unfolding Hops
lane_leads look v w a hops e role n1 ds b past h = subst (λ (x : DataLineState _). LineFits look role n1 ds b x (Passed a ∷ past)) (sym e) (record {
  relay_fits = hops role n1 ds past h.relay_fits;
  came = h.came;
  went = h.went;
  read_are = h.read_are;
  sent_are = h.sent_are;
})

-- ## One behind the other

-- nothing moves
pub moves_none : {X Y : Type 0} (look : X → LineView) (file_look : Y → LineView) (v : DataLineState X) (f : FileState Y) → FileMoves look file_look v v f f
moves_none look file_look v f = record { hops = []; only = refl; leads = λ role n1 ds b past h. h; dlci_is = refl; fits = λ role n1 ds b past x h. h }

-- only the file changes, and still fits each past that it fitted
pub moves_file : {X Y : Type 0} (look : X → LineView) (file_look : Y → LineView) (v : DataLineState X) (f h : FileState Y) → h.dlci ≡ f.dlci
    → ((past : List Pass) → FileFits file_look past f → FileFits file_look past h) → FileMoves look file_look v v f h
moves_file look file_look v f h e fits = record { hops = []; only = refl; leads = λ role n1 ds b past k. k; dlci_is = e; fits = λ role n1 ds b past k x. fits (passes past) x }

-- what moves by two steps moves by both together
pub moves_then : {X Y : Type 0} (look : X → LineView) (file_look : Y → LineView) (u v w : DataLineState X) (f h k : FileState Y)
    → FileMoves look file_look u v f h → FileMoves look file_look v w h k → FileMoves look file_look u w f k
moves_then look file_look u v w f h k one two = record {
  hops = two.hops ++ one.hops;
  only = all_both (is_of_file f.dlci) two.hops one.hops (subst (λ (d : ℕ). list_all (is_of_file d) two.hops ≡ true) one.dlci_is two.only) one.only;
  leads = λ role n1 ds b past x. subst (λ (hs : List Hop). LineFits look role n1 ds b w hs) (sym (append_assoc two.hops one.hops past)) (two.leads role n1 ds b (one.hops ++ past) (one.leads role n1 ds b past x));
  dlci_is = two.dlci_is ∙ one.dlci_is;
  fits = λ role n1 ds b past x y. subst (λ (hs : List Hop). FileFits file_look (passes hs) k) (sym (append_assoc two.hops one.hops past)) (two.fits role n1 ds b (one.hops ++ past) (one.leads role n1 ds b past x) (one.fits role n1 ds b past x y));
}

-- ## Octets are given

gave_fits : {Y : Type 0} (look : Y → LineView) (f : FileState Y) (octets rest : List ℕ) → f.ungiven ≡ octets ++ rest → (past : List Pass)
    → FileFits look past f → FileFits look (Gave f.dlci octets ∷ past) (record f { ungiven = rest })
gave_fits look f octets rest split past h = record {
  given_are = rw (same_dlci f.dlci)
      (h.given_are ∙ ap (λ (xs : List ℕ). f.before.received ++ xs) (ap (λ (xs : List ℕ). all_given f.dlci past ++ xs) split ∙ sym (append_assoc (all_given f.dlci past) octets rest)));
  read_are = h.read_are;
  renewals_are = h.renewals_are;
  dropped_are = h.dropped_are;
}

-- the connection was given the first of the octets that waited
pub gives : {X Y : Type 0} (look : X → LineView) (file_look : Y → LineView) (v w : DataLineState X) (f : FileState Y) (rest : List ℕ)
    → GaveFirst v.relay w.relay f.dlci f.ungiven rest → w ≡ record v { relay = w.relay } → FileMoves look file_look v w f (record f { ungiven = rest })
gives look file_look v w f rest h beside = record {
  hops = Passed (Gave f.dlci h.octets) ∷ [];
  only = and_from (f.dlci == f.dlci) true (same_dlci f.dlci) refl;
  leads = lane_leads look v w (Gave f.dlci h.octets) h.gave beside;
  dlci_is = refl;
  fits = λ role n1 ds b past x y. gave_fits file_look f h.octets rest h.split (passes past) y;
}

-- nothing changed
pub moves_same : {X Y : Type 0} (look : X → LineView) (file_look : Y → LineView) (v w : DataLineState X) (f h : FileState Y) → w ≡ v → h ≡ f → FileMoves look file_look v w f h
moves_same look file_look v w f h e q =
    subst (λ (x : DataLineState _). FileMoves look file_look v x f h) (sym e) (subst (λ (x : FileState _). FileMoves look file_look v v f x) (sym q) (moves_none look file_look v f))

-- by a call that may be refused
pub gives_or : {X Y : Type 0} (look : X → LineView) (file_look : Y → LineView) (v w : DataLineState X) (f : FileState Y) (rest : List ℕ) (result : Result ℕ DataError)
    → OnOk result (GaveFirst v.relay w.relay f.dlci f.ungiven rest) → OnErr result ((w ≡ v) × (rest ≡ f.ungiven)) → w ≡ record v { relay = w.relay }
    → FileMoves look file_look v w f (record f { ungiven = rest })
gives_or look file_look v w f rest (Ok n) gave err beside = gives look file_look v w f rest gave beside
gives_or look file_look v w f rest (Err why) gave err beside = moves_same look file_look v w f (record f { ungiven = rest }) err.0 (ap (λ (xs : List ℕ). record f { ungiven = xs }) err.1)

-- ## Octets are read

read_fits : {Y : Type 0} (look : Y → LineView) (f : FileState Y) (octets : List ℕ) (over : Bool) → f.unwritten ≡ [] → (past : List Pass)
    → FileFits look past f → FileFits look (Read f.dlci octets ∷ past) (record f { unwritten = octets; is_over = over })
read_fits look f octets over none past h = record {
  given_are = h.given_are;
  read_are = rw (same_dlci f.dlci)
      (sym (append_assoc f.before.sent (all_read f.dlci past) octets) ∙ ap (λ (xs : List ℕ). xs ++ octets) (h.read_are ∙ (ap (λ (xs : List ℕ). (look f.file).sent ++ xs) none ∙ append-nil (look f.file).sent)));
  renewals_are = h.renewals_are;
  dropped_are = h.dropped_are;
}

-- what was read there waits for the file, for which nothing waited
pub takes : {X Y : Type 0} (look : X → LineView) (file_look : Y → LineView) (v w : DataLineState X) (f h : FileState Y)
    → f.unwritten ≡ [] → Hops v.relay w.relay (Passed (Read f.dlci h.unwritten)) → w ≡ record v { relay = w.relay }
    → h ≡ record f { unwritten = h.unwritten; is_over = h.is_over } → FileMoves look file_look v w f h
takes look file_look v w f h none hops beside e = record {
  hops = Passed (Read f.dlci h.unwritten) ∷ [];
  only = and_from (f.dlci == f.dlci) true (same_dlci f.dlci) refl;
  leads = lane_leads look v w (Read f.dlci h.unwritten) hops beside;
  dlci_is = ap (λ (x : FileState _). x.dlci) e;
  fits = λ role n1 ds b past k x. subst (λ (y : FileState _). FileFits file_look (Read f.dlci h.unwritten ∷ passes past) y) (sym e) (read_fits file_look f h.unwritten h.is_over none (passes past) x);
}

-- a call that was refused
pub takes_none : {X Y : Type 0} (look : X → LineView) (file_look : Y → LineView) (v w : DataLineState X) (f : FileState Y) (rest : List ℕ) → w ≡ v → rest ≡ f.unwritten
    → FileMoves look file_look v w f (record f { unwritten = rest })
takes_none look file_look v w f rest e q = moves_same look file_look v w f (record f { unwritten = rest }) e (ap (λ (xs : List ℕ). record f { unwritten = xs }) q)

-- ## The file itself

-- all octets that a read gave came
pub all_came : {Y : Type 0} (look : Y → LineView) (f h : Y) (more : List ℕ) (n : ℕ) → n ≡ length more → look h ≡ after_read 512 n more (look f)
    → (look h).received ≡ (look f).received ++ more
all_came look f h more n count gave =
    ap (λ (l : LineView). l.received) gave
    ∙ (ap (λ (k : ℕ). (look f).received ++ take k more) count ∙ ap (λ (xs : List ℕ). (look f).received ++ xs) (take-length more))

-- what came in a read, or in one that failed
pub came_by : {Y : Type 0} (look : Y → LineView) (f h : Y) (more : List ℕ) (r : Result ℕ LineFault) → IfOk r (λ n. n ≡ length more) → OnErr r (more ≡ [])
    → IfOk r (λ n. look h ≡ after_read 512 n more (look f)) → OnErr r (look h ≡ after_fault (look f)) → (look h).received ≡ (look f).received ++ more
came_by look f h more (Ok n) count none gave fault = all_came look f h more n count gave
came_by look f h more (Err why) count none gave fault =
    ap (λ (l : LineView). l.received) fault ∙ (sym (append-nil (look f).received) ∙ ap (λ (xs : List ℕ). (look f).received ++ xs) (sym none))

-- nothing went in either
pub none_went : {Y : Type 0} (look : Y → LineView) (f h : Y) (more : List ℕ) (r : Result ℕ LineFault)
    → IfOk r (λ n. look h ≡ after_read 512 n more (look f)) → OnErr r (look h ≡ after_fault (look f))
    → ((look h).sent ≡ (look f).sent) × ((look h).stalled_writes ≡ (look f).stalled_writes)
none_went look f h more (Ok n) gave fault = (ap (λ (l : LineView). l.sent) gave, ap (λ (l : LineView). l.stalled_writes) gave)
none_went look f h more (Err why) gave fault = (ap (λ (l : LineView). l.sent) fault, ap (λ (l : LineView). l.stalled_writes) fault)

-- the file gave octets, where none of its waited, and they wait to be given
pub came_of_file : {Y : Type 0} (look : Y → LineView) (f h : FileState Y) (r : Result ℕ LineFault) → f.ungiven ≡ [] → IfOk r (λ n. n ≡ length h.ungiven) → OnErr r (h.ungiven ≡ [])
    → IfOk r (λ n. look h.file ≡ after_read 512 n h.ungiven (look f.file)) → OnErr r (look h.file ≡ after_fault (look f.file))
    → h ≡ record f { file = h.file; ungiven = h.ungiven; has_ended = h.has_ended } → (past : List Pass) → FileFits look past f → FileFits look past h
came_of_file look f h r none count empty gave fault e past x = subst (λ (y : FileState _). FileFits look past y) (sym e) (record {
  given_are = came_by look f.file h.file h.ungiven r count empty gave fault
      ∙ ap (λ (xs : List ℕ). xs ++ h.ungiven)
      (x.given_are ∙ ap (λ (xs : List ℕ). f.before.received ++ xs) (ap (λ (xs : List ℕ). all_given f.dlci past ++ xs) none ∙ append-nil (all_given f.dlci past)))
      ∙ append_assoc f.before.received (all_given f.dlci past) h.ungiven;
  read_are = x.read_are ∙ ap (λ (xs : List ℕ). xs ++ f.unwritten) (sym (none_went look f.file h.file h.ungiven r gave fault).0);
  renewals_are = x.renewals_are;
  dropped_are = x.dropped_are;
})

-- the file took the first of those that waited for it, and the others wait
pub went_to_file : {Y : Type 0} (look : Y → LineView) (f h : FileState Y) → (look h.file).received ≡ (look f.file).received → (look h.file).sent ++ h.unwritten ≡ (look f.file).sent ++ f.unwritten
    → h ≡ record f { file = h.file; unwritten = h.unwritten; is_broken = h.is_broken } → (past : List Pass) → FileFits look past f → FileFits look past h
went_to_file look f h came split e past x = subst (λ (y : FileState _). FileFits look past y) (sym e) (record {
  given_are = came ∙ x.given_are;
  read_are = x.read_are ∙ sym split;
  renewals_are = x.renewals_are;
  dropped_are = x.dropped_are;
})

-- ## It is asked

asked : (r0 r1 more : List ℕ) (n e0 e1 : ℕ) → r1 ≡ r0 ++ more → n ≡ length more → e1 ≡ counted_if_none 512 n e0 → (length r0 < length r1) ⊎ (one_more e0 ≤ e1)
asked r0 r1 [] n e0 e1 came count e =
    inr (let rises : e1 ≡ one_more e0 = e ∙ ap (λ (k : ℕ). counted_if_none 512 k e0) count in omega (arith, rises))
asked r0 r1 (y ∷ ys) n e0 e1 came count e =
    inl (let long : length r1 ≡ length r0 + length (y ∷ ys) = ap length came ∙ length-append r0 (y ∷ ys) in omega (arith, long))

-- a read that didn't fail
pub asked_file : {Y : Type 0} (look : Y → LineView) (f h : Y) (ended : Bool) (more : List ℕ) (r : Result ℕ LineFault) → is_err r ≡ false → IfOk r (λ n. n ≡ length more)
    → IfOk r (λ n. look h ≡ after_read 512 n more (look f)) → (ended ≡ true) ⊎ ((length (look f).received < length (look h).received) ⊎ (one_more (look f).empty_reads ≤ (look h).empty_reads))
asked_file look f h ended more (Ok n) sound count gave =
    inr (asked (look f).received (look h).received more n (look f).empty_reads (look h).empty_reads (all_came look f h more n count gave) count (ap (λ (l : LineView). l.empty_reads) gave))
asked_file look f h ended more (Err why) sound count gave = absurd (true≢false sound)
