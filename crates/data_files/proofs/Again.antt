-- A file goes on beside another line.
use Rattle.std.specs.Prelude.{◌≡◌, ℕ, ◌+◌, ◌-◌, ◌<◌, ◌≤◌, List, [], ◌∷◌, ◌++◌, All, length, map, drop, take, refl, slice_index_or, slice_set}
use Rattle.std.proofs.Common.{ap, arith, sym, ◌∙◌, subst, suc, zero}
use Rattle.std.proofs.lemmas.List.{append_assoc, append-nil, drop_all, length-append, take_all}
use Rattle.std.proofs.lemmas.List.Elements.{All-map, All-weaker}
use Rattle.std.proofs.Math.Seq.{take-append_seam}
use Rattle.mux_station.specs.declared.role.Role.{Role}
use Rattle.serial_line.specs.LineViews.{LineView}
use Rattle.modem_data.specs.Hops.{BeginsAs, Hop, Passed, Relay}
use Rattle.modem_data.specs.Passing.{Began, Pass}
use Rattle.modem_data_line.specs.DataLines.{DataLineState, LineFits}
use Rattle.data_files.specs.Files.{FileFits, FileState, again, all_given, begun, dlcis}
use Rattle.data_files.specs.Moves.{HasBegunTo}

-- what stands before the last ones
front_is : (all front last : List ℕ) → all ≡ front ++ last → take (length all - length last) all ≡ front
front_is all front last e = subst (λ (xs : List ℕ). take (length xs - length last) xs ≡ front) (sym e)
    (let long = length-append front last in
    let count : length (front ++ last) - length last ≡ length front = omega (arith, long) in
    ap (λ (n : ℕ). take n (front ++ last)) count ∙ take-append_seam front last)

-- a file that is beside another line fits the empty past there, whatever passed before
pub again_fits : {Y : Type 0} (look : Y → LineView) (past : List Pass) (f : FileState Y) → FileFits look past f → FileFits look [] (again look f)
again_fits look past f h = record {
  given_are = whole ∙ ap (λ (xs : List ℕ). xs ++ f.ungiven) (sym (front_is (look f.file).received (f.before.received ++ all_given f.dlci past) f.ungiven whole));
  read_are = append-nil ((look f.file).sent ++ f.unwritten);
  renewals_are = omega arith;
  dropped_are = omega arith;
}
  where
    whole : (look f.file).received ≡ (f.before.received ++ all_given f.dlci past) ++ f.ungiven
    whole = h.given_are ∙ sym (append_assoc f.before.received (all_given f.dlci past) f.ungiven)

-- so do all of a line's
pub all_again : {Y : Type 0} (look : Y → LineView) (past : List Pass) (files : List (FileState Y)) → All (FileFits look past) files
    → All (FileFits look []) (map (again look) files)
all_again look past files fits =
    All-map (FileFits look []) (again look) files (All-weaker (FileFits look past) (λ (f : FileState _). FileFits look [] (again look f)) (again_fits look past) files fits)

-- ## One after the other

-- the first so many are again
abbrev pub again_to : {Y : Type 0} (look : Y → LineView) → ℕ → List (FileState Y) → List (FileState Y)
again_to look n files = map (again look) (take n files) ++ drop n files

again_next : {Y : Type 0} (look : Y → LineView) (n : ℕ) (files : List (FileState Y)) (f : FileState Y) → n < length files
    → slice_set (again_to look n files) n (again look (slice_index_or (again_to look n files) n f)) ≡ again_to look (suc n) files
again_next look n [] f there = absurd (omega (arith, there))
again_next look zero (x ∷ files) f there = refl
again_next look (suc n) (x ∷ files) f there =
    ap (λ (xs : List (FileState _)). again look x ∷ xs) (again_next look n files f (omega (arith, there)))

-- at first none is again
pub again_none : {Y : Type 0} (look : Y → LineView) (files : List (FileState Y)) → files ≡ again_to look 0 files
again_none look files = refl

-- the next one is
pub again_more : {Y : Type 0} (look : Y → LineView) (n : ℕ) (files now next : List (FileState Y)) (f : FileState Y) → n < length files → now ≡ again_to look n files
    → next ≡ slice_set now n (again look (slice_index_or now n f)) → next ≡ again_to look (n + 1) files
again_more look n files now next f there e q =
    q ∙ (ap (λ (xs : List (FileState _)). slice_set xs n (again look (slice_index_or xs n f))) e
    ∙ (again_next look n files f there ∙ ap (λ (k : ℕ). again_to look k files) (let same : suc n ≡ n + 1 = omega arith in same)))

-- behind the last one all are
pub again_all : {Y : Type 0} (look : Y → LineView) (n : ℕ) (files now : List (FileState Y)) → length files ≤ n → now ≡ again_to look n files → now ≡ map (again look) files
again_all look n files now most e =
    e ∙ (ap (λ (xs : List (FileState _)). map (again look) xs ++ drop n files) (take_all n files most)
    ∙ (ap (λ (xs : List (FileState _)). map (again look) files ++ xs) (drop_all n files most) ∙ append-nil (map (again look) files)))

-- ## Beside another line

-- their connections are the same
pub again_dlcis : {Y : Type 0} (look : Y → LineView) (files : List (FileState Y)) → dlcis (map (again look) files) ≡ dlcis files
again_dlcis look [] = refl
again_dlcis look (f ∷ files) = ap (λ (ds : List ℕ). f.dlci ∷ ds) (again_dlcis look files)

again_begun : {Y : Type 0} (look : Y → LineView) (files : List (FileState Y)) (past : List Hop) → begun (map (again look) files) past ≡ begun files past
again_begun look [] past = refl
again_begun look (f ∷ files) past = again_begun look files (Passed (Began f.dlci f.how f.until) ∷ past)

-- and so do their lanes begin
pub again_begins : {X Y : Type 0} (line_look : X → LineView) (look : Y → LineView) (files : List (FileState Y)) (u v : DataLineState X) → HasBegunTo line_look files u v
    → HasBegunTo line_look (map (again look) files) u v
again_begins line_look look files u v h = record {
  leads = λ role n1 ds b past x. subst (λ (hs : List Hop). LineFits line_look role n1 ds b v hs) (sym (again_begun look files past)) (h.leads role n1 ds b past x);
  same = h.same;
}

-- a relay for their connections is one for those
pub again_relay : {Y : Type 0} (look : Y → LineView) (role : Role) (n1 : ℕ) (files : List (FileState Y)) (relay : Relay) → BeginsAs role n1 (dlcis files) relay
    → BeginsAs role n1 (dlcis (map (again look) files)) relay
again_relay look role n1 files relay h = subst (λ (ds : List ℕ). BeginsAs role n1 ds relay) (sym (again_dlcis look files)) h
