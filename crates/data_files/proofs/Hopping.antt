-- What hops do to what was given and read on a connection.
use Rattle.std.specs.Prelude.{◌≡◌, ℕ, ◌+◌, ◌-◌, ◌^◌, ◌==◌, Bool, true, false, List, [], ◌∷◌, ◌++◌, length, min, if◌then◌else◌, refl}
use Rattle.std.specs.List.{list_all}
use Rattle.std.proofs.Common.{ap, ap₂, arith, sym, ◌∙◌, subst}
use Rattle.std.proofs.lemmas.Bool.{and_from, and_parts, eqb-true}
use Rattle.std.proofs.lemmas.List.Folds.{list_all-append}
use Rattle.std.proofs.lemmas.List.Elements.{filter_map-append}
use Rattle.mux_station.specs.declared.role.Role.{Role}
use Rattle.serial_line.specs.LineViews.{LineView}
use Rattle.modem_data.specs.Passing.{Pass, Came, Went, Flowed, Left, Lost, Began, EndedLane, Gave, Read, begin_of, carries, data_came, data_read, given, left, to_go, unread, wire}
use Rattle.modem_data.specs.Hops.{Hop, Fed, Handed, Took, Wrote, Passed, pass_of, passes}
use Rattle.modem_data_line.specs.DataLines.{is_of_driver, may_go, may_pass}
use Rattle.data_files.specs.Files.{FileFits, FileState, all_given, all_read, lanes_begun, unsent_before}
use Rattle.data_files.specs.Moves.{is_of_file}

-- hops that are all of a kind, and more such, are all of it
pub all_both : (p : Hop → Bool) (xs ys : List Hop) → list_all p xs ≡ true → list_all p ys ≡ true → list_all p (xs ++ ys) ≡ true
all_both p xs ys a b = list_all-append p xs ys ∙ and_from (list_all p xs) (list_all p ys) a b

-- and all of any kind that is wider
pub all_kind : (p q : Hop → Bool) (xs : List Hop) → ((a : Hop) → p a ≡ true → q a ≡ true) → list_all p xs ≡ true → list_all q xs ≡ true
all_kind p q [] on e = refl
all_kind p q (a ∷ xs) on e =
    let both = and_parts (p a) (list_all p xs) e in
    and_from (q a) (list_all q xs) (on a both.0) (all_kind p q xs on both.1)

-- what passes by some hops, and by those before, passes by all
pub passes_both : (xs ys : List Hop) → passes (xs ++ ys) ≡ passes xs ++ passes ys
passes_both xs ys = filter_map-append pass_of xs ys

-- ## Kinds

-- what may go out may pass
pub goes_passes : (behind : Bool) (a : Hop) → may_go behind a ≡ true → may_pass false a ≡ true
goes_passes true (Passed (Flowed f)) e = cc
goes_passes true (Passed (Left f)) e = cc
goes_passes true (Passed (Came f)) e = refl
goes_passes true (Passed (Went f)) e = refl
goes_passes true (Passed Lost) e = refl
goes_passes true (Passed (Began d c u)) e = cc
goes_passes true (Passed (EndedLane d)) e = cc
goes_passes true (Passed (Gave d o)) e = cc
goes_passes true (Passed (Read d o)) e = cc
goes_passes true (Fed o) e = refl
goes_passes true (Handed o) e = refl
goes_passes true (Took o) e = cc
goes_passes true (Wrote o) e = refl
goes_passes false (Passed (Flowed f)) e = refl
goes_passes false (Passed (Left f)) e = refl
goes_passes false (Passed (Came f)) e = refl
goes_passes false (Passed (Went f)) e = refl
goes_passes false (Passed Lost) e = refl
goes_passes false (Passed (Began d c u)) e = cc
goes_passes false (Passed (EndedLane d)) e = cc
goes_passes false (Passed (Gave d o)) e = cc
goes_passes false (Passed (Read d o)) e = cc
goes_passes false (Fed o) e = refl
goes_passes false (Handed o) e = refl
goes_passes false (Took o) e = cc
goes_passes false (Wrote o) e = refl

-- what may pass while the driver is behind may pass when it isn't
pub any_passes : (behind : Bool) (a : Hop) → may_pass behind a ≡ true → may_pass false a ≡ true
any_passes behind (Fed o) e = refl
any_passes behind (Handed o) e = refl
any_passes behind (Passed (Came f)) e = refl
any_passes behind (Passed (Went f)) e = goes_passes behind (Passed (Went f)) e
any_passes behind (Passed (Flowed f)) e = goes_passes behind (Passed (Flowed f)) e
any_passes behind (Passed (Left f)) e = goes_passes behind (Passed (Left f)) e
any_passes behind (Passed Lost) e = goes_passes behind (Passed Lost) e
any_passes behind (Passed (Began d c u)) e = goes_passes behind (Passed (Began d c u)) e
any_passes behind (Passed (EndedLane d)) e = goes_passes behind (Passed (EndedLane d)) e
any_passes behind (Passed (Gave d o)) e = goes_passes behind (Passed (Gave d o)) e
any_passes behind (Passed (Read d o)) e = goes_passes behind (Passed (Read d o)) e
any_passes behind (Took o) e = goes_passes behind (Took o) e
any_passes behind (Wrote o) e = goes_passes behind (Wrote o) e

-- and so may what is of the driver
pub driver_passes : (a : Hop) → is_of_driver a ≡ true → may_pass false a ≡ true
driver_passes a e = goes_passes true a e

-- ## Hops that give and read nothing on d

-- of this kind: neither given nor read on d, and no lane begins there
abbrev pub is_beside : ℕ → Hop → Bool
is_beside d (Passed (Gave e octets)) = if e == d then false else true
is_beside d (Passed (Read e octets)) = if e == d then false else true
is_beside d (Passed (Began e how until)) = if e == d then false else true
is_beside d a = true

-- what may pass gives and reads nothing on d, and begins no lane there
pub passes_beside : (d : ℕ) (a : Hop) → may_pass false a ≡ true → is_beside d a ≡ true
passes_beside d (Passed (Came f)) e = refl
passes_beside d (Passed (Went f)) e = refl
passes_beside d (Passed (Flowed f)) e = refl
passes_beside d (Passed (Left f)) e = refl
passes_beside d (Passed Lost) e = refl
passes_beside d (Passed (Began c b u)) e = cc
passes_beside d (Passed (EndedLane c)) e = refl
passes_beside d (Passed (Gave c o)) e = cc
passes_beside d (Passed (Read c o)) e = cc
passes_beside d (Fed o) e = refl
passes_beside d (Handed o) e = refl
passes_beside d (Took o) e = refl
passes_beside d (Wrote o) e = refl

not_both : (b c d : ℕ) → (c == d) ≡ false → (b == c) ≡ true → (b == d) ≡ false
not_both b c d apart e = subst (λ (n : ℕ). (n == d) ≡ false) (sym (eqb-true b c e)) apart

if_apart : (b : Bool) → b ≡ false → (if b then false else true) ≡ true
if_apart true e = sym e
if_apart false e = refl

-- what is of one connection's file is beside another's
pub of_file_beside : (c d : ℕ) → (c == d) ≡ false → (a : Hop) → is_of_file c a ≡ true → is_beside d a ≡ true
of_file_beside c d apart (Passed (Gave b o)) e = if_apart (b == d) (not_both b c d apart e)
of_file_beside c d apart (Passed (Read b o)) e = if_apart (b == d) (not_both b c d apart e)
of_file_beside c d apart (Passed (Came f)) e = refl
of_file_beside c d apart (Passed (Went f)) e = refl
of_file_beside c d apart (Passed (Flowed f)) e = refl
of_file_beside c d apart (Passed (Left f)) e = refl
of_file_beside c d apart (Passed Lost) e = refl
of_file_beside c d apart (Passed (Began b k u)) e = if_apart (b == d) (not_both b c d apart e)
of_file_beside c d apart (Passed (EndedLane b)) e = refl
of_file_beside c d apart (Fed o) e = refl
of_file_beside c d apart (Handed o) e = refl
of_file_beside c d apart (Took o) e = refl
of_file_beside c d apart (Wrote o) e = refl

given_if : {A : Type 0} (b : Bool) (x y : A) → (if b then false else true) ≡ true → (if b then x else y) ≡ y
given_if true x y e = cc
given_if false x y e = refl

-- so what was given and read there stays
pub given_stays : (d : ℕ) (hops : List Hop) (past : List Pass) → list_all (is_beside d) hops ≡ true → given d (passes hops ++ past) ≡ given d past
given_stays d [] past e = refl
given_stays d (Passed (Gave c o) ∷ hops) past e =
    let both = and_parts (is_beside d (Passed (Gave c o))) (list_all (is_beside d) hops) e in
    given_if (c == d) (given d (passes hops ++ past) ++ o) (given d (passes hops ++ past)) both.0 ∙ given_stays d hops past both.1
given_stays d (Passed (Read c o) ∷ hops) past e =
    given_stays d hops past (and_parts (is_beside d (Passed (Read c o))) (list_all (is_beside d) hops) e).1
given_stays d (Passed (Began c b u) ∷ hops) past e =
    let both = and_parts (is_beside d (Passed (Began c b u))) (list_all (is_beside d) hops) e in
    given_if (c == d) [] (given d (passes hops ++ past)) both.0 ∙ given_stays d hops past both.1
given_stays d (Passed (Came f) ∷ hops) past e = given_stays d hops past e
given_stays d (Passed (Went f) ∷ hops) past e = given_stays d hops past e
given_stays d (Passed (Flowed f) ∷ hops) past e = given_stays d hops past e
given_stays d (Passed (Left f) ∷ hops) past e = given_stays d hops past e
given_stays d (Passed Lost ∷ hops) past e = given_stays d hops past e
given_stays d (Passed (EndedLane c) ∷ hops) past e = given_stays d hops past e
given_stays d (Fed o ∷ hops) past e = given_stays d hops past e
given_stays d (Handed o ∷ hops) past e = given_stays d hops past e
given_stays d (Took o ∷ hops) past e = given_stays d hops past e
given_stays d (Wrote o ∷ hops) past e = given_stays d hops past e

-- and what was read of the lane that began last
pub read_stays : (d : ℕ) (hops : List Hop) (past : List Pass) → list_all (is_beside d) hops ≡ true → data_read d (passes hops ++ past) ≡ data_read d past
read_stays d [] past e = refl
read_stays d (Passed (Read c o) ∷ hops) past e =
    let both = and_parts (is_beside d (Passed (Read c o))) (list_all (is_beside d) hops) e in
    given_if (c == d) (data_read d (passes hops ++ past) ++ o) (data_read d (passes hops ++ past)) both.0 ∙ read_stays d hops past both.1
read_stays d (Passed (Gave c o) ∷ hops) past e =
    read_stays d hops past (and_parts (is_beside d (Passed (Gave c o))) (list_all (is_beside d) hops) e).1
read_stays d (Passed (Began c b u) ∷ hops) past e =
    let both = and_parts (is_beside d (Passed (Began c b u))) (list_all (is_beside d) hops) e in
    given_if (c == d) [] (data_read d (passes hops ++ past)) both.0 ∙ read_stays d hops past both.1
read_stays d (Passed (Came f) ∷ hops) past e = read_stays d hops past e
read_stays d (Passed (Went f) ∷ hops) past e = read_stays d hops past e
read_stays d (Passed (Flowed f) ∷ hops) past e = read_stays d hops past e
read_stays d (Passed (Left f) ∷ hops) past e = read_stays d hops past e
read_stays d (Passed Lost ∷ hops) past e = read_stays d hops past e
read_stays d (Passed (EndedLane c) ∷ hops) past e = read_stays d hops past e
read_stays d (Fed o ∷ hops) past e = read_stays d hops past e
read_stays d (Handed o ∷ hops) past e = read_stays d hops past e
read_stays d (Took o ∷ hops) past e = read_stays d hops past e
read_stays d (Wrote o ∷ hops) past e = read_stays d hops past e

-- and what was given to all its lanes
pub all_given_stays : (d : ℕ) (hops : List Hop) (past : List Pass) → list_all (is_beside d) hops ≡ true → all_given d (passes hops ++ past) ≡ all_given d past
all_given_stays d [] past e = refl
all_given_stays d (Passed (Gave c o) ∷ hops) past e =
    let both = and_parts (is_beside d (Passed (Gave c o))) (list_all (is_beside d) hops) e in
    given_if (c == d) (all_given d (passes hops ++ past) ++ o) (all_given d (passes hops ++ past)) both.0 ∙ all_given_stays d hops past both.1
all_given_stays d (Passed (Read c o) ∷ hops) past e =
    all_given_stays d hops past (and_parts (is_beside d (Passed (Read c o))) (list_all (is_beside d) hops) e).1
all_given_stays d (Passed (Began c b u) ∷ hops) past e =
    all_given_stays d hops past (and_parts (is_beside d (Passed (Began c b u))) (list_all (is_beside d) hops) e).1
all_given_stays d (Passed (Came f) ∷ hops) past e = all_given_stays d hops past e
all_given_stays d (Passed (Went f) ∷ hops) past e = all_given_stays d hops past e
all_given_stays d (Passed (Flowed f) ∷ hops) past e = all_given_stays d hops past e
all_given_stays d (Passed (Left f) ∷ hops) past e = all_given_stays d hops past e
all_given_stays d (Passed Lost ∷ hops) past e = all_given_stays d hops past e
all_given_stays d (Passed (EndedLane c) ∷ hops) past e = all_given_stays d hops past e
all_given_stays d (Fed o ∷ hops) past e = all_given_stays d hops past e
all_given_stays d (Handed o ∷ hops) past e = all_given_stays d hops past e
all_given_stays d (Took o ∷ hops) past e = all_given_stays d hops past e
all_given_stays d (Wrote o ∷ hops) past e = all_given_stays d hops past e

-- and what was read of them all
pub all_read_stays : (d : ℕ) (hops : List Hop) (past : List Pass) → list_all (is_beside d) hops ≡ true → all_read d (passes hops ++ past) ≡ all_read d past
all_read_stays d [] past e = refl
all_read_stays d (Passed (Gave c o) ∷ hops) past e =
    all_read_stays d hops past (and_parts (is_beside d (Passed (Gave c o))) (list_all (is_beside d) hops) e).1
all_read_stays d (Passed (Read c o) ∷ hops) past e =
    let both = and_parts (is_beside d (Passed (Read c o))) (list_all (is_beside d) hops) e in
    given_if (c == d) (all_read d (passes hops ++ past) ++ o) (all_read d (passes hops ++ past)) both.0 ∙ all_read_stays d hops past both.1
all_read_stays d (Passed (Began c b u) ∷ hops) past e =
    all_read_stays d hops past (and_parts (is_beside d (Passed (Began c b u))) (list_all (is_beside d) hops) e).1
all_read_stays d (Passed (Came f) ∷ hops) past e = all_read_stays d hops past e
all_read_stays d (Passed (Went f) ∷ hops) past e = all_read_stays d hops past e
all_read_stays d (Passed (Flowed f) ∷ hops) past e = all_read_stays d hops past e
all_read_stays d (Passed (Left f) ∷ hops) past e = all_read_stays d hops past e
all_read_stays d (Passed Lost ∷ hops) past e = all_read_stays d hops past e
all_read_stays d (Passed (EndedLane c) ∷ hops) past e = all_read_stays d hops past e
all_read_stays d (Fed o ∷ hops) past e = all_read_stays d hops past e
all_read_stays d (Handed o ∷ hops) past e = all_read_stays d hops past e
all_read_stays d (Took o ∷ hops) past e = all_read_stays d hops past e
all_read_stays d (Wrote o ∷ hops) past e = all_read_stays d hops past e

-- and how many lanes began
pub lanes_stay : (d : ℕ) (hops : List Hop) (past : List Pass) → list_all (is_beside d) hops ≡ true → lanes_begun d (passes hops ++ past) ≡ lanes_begun d past
lanes_stay d [] past e = refl
lanes_stay d (Passed (Gave c o) ∷ hops) past e =
    lanes_stay d hops past (and_parts (is_beside d (Passed (Gave c o))) (list_all (is_beside d) hops) e).1
lanes_stay d (Passed (Read c o) ∷ hops) past e =
    lanes_stay d hops past (and_parts (is_beside d (Passed (Read c o))) (list_all (is_beside d) hops) e).1
lanes_stay d (Passed (Began c b u) ∷ hops) past e =
    let both = and_parts (is_beside d (Passed (Began c b u))) (list_all (is_beside d) hops) e in
    given_if (c == d) (lanes_begun d (passes hops ++ past) + 1) (lanes_begun d (passes hops ++ past)) both.0 ∙ lanes_stay d hops past both.1
lanes_stay d (Passed (Came f) ∷ hops) past e = lanes_stay d hops past e
lanes_stay d (Passed (Went f) ∷ hops) past e = lanes_stay d hops past e
lanes_stay d (Passed (Flowed f) ∷ hops) past e = lanes_stay d hops past e
lanes_stay d (Passed (Left f) ∷ hops) past e = lanes_stay d hops past e
lanes_stay d (Passed Lost ∷ hops) past e = lanes_stay d hops past e
lanes_stay d (Passed (EndedLane c) ∷ hops) past e = lanes_stay d hops past e
lanes_stay d (Fed o ∷ hops) past e = lanes_stay d hops past e
lanes_stay d (Handed o ∷ hops) past e = lanes_stay d hops past e
lanes_stay d (Took o ∷ hops) past e = lanes_stay d hops past e
lanes_stay d (Wrote o ∷ hops) past e = lanes_stay d hops past e

-- and how many octets its lanes didn't send
pub unsent_stays : (d : ℕ) (hops : List Hop) (past : List Pass) → list_all (is_beside d) hops ≡ true → unsent_before d (passes hops ++ past) ≡ unsent_before d past
unsent_stays d [] past e = refl
unsent_stays d (Passed (Gave c o) ∷ hops) past e =
    unsent_stays d hops past (and_parts (is_beside d (Passed (Gave c o))) (list_all (is_beside d) hops) e).1
unsent_stays d (Passed (Read c o) ∷ hops) past e =
    unsent_stays d hops past (and_parts (is_beside d (Passed (Read c o))) (list_all (is_beside d) hops) e).1
unsent_stays d (Passed (Began c b u) ∷ hops) past e =
    let both = and_parts (is_beside d (Passed (Began c b u))) (list_all (is_beside d) hops) e in
    given_if (c == d) (unsent_before d (passes hops ++ past) + to_go d (passes hops ++ past)) (unsent_before d (passes hops ++ past)) both.0 ∙ unsent_stays d hops past both.1
unsent_stays d (Passed (Came f) ∷ hops) past e = unsent_stays d hops past e
unsent_stays d (Passed (Went f) ∷ hops) past e = unsent_stays d hops past e
unsent_stays d (Passed (Flowed f) ∷ hops) past e = unsent_stays d hops past e
unsent_stays d (Passed (Left f) ∷ hops) past e = unsent_stays d hops past e
unsent_stays d (Passed Lost ∷ hops) past e = unsent_stays d hops past e
unsent_stays d (Passed (EndedLane c) ∷ hops) past e = unsent_stays d hops past e
unsent_stays d (Fed o ∷ hops) past e = unsent_stays d hops past e
unsent_stays d (Handed o ∷ hops) past e = unsent_stays d hops past e
unsent_stays d (Took o ∷ hops) past e = unsent_stays d hops past e
unsent_stays d (Wrote o ∷ hops) past e = unsent_stays d hops past e

-- a file beside such hops fits as before
pub fits_beside : {Y : Type 0} (look : Y → LineView) (f : FileState Y) (hops : List Hop) (past : List Pass) → list_all (is_beside f.dlci) hops ≡ true
    → FileFits look past f → FileFits look (passes hops ++ past) f
fits_beside look f hops past e h = record {
  given_are = h.given_are ∙ ap (λ (xs : List ℕ). f.before.received ++ (xs ++ f.ungiven)) (sym (all_given_stays f.dlci hops past e));
  read_are = ap (λ (xs : List ℕ). f.before.sent ++ xs) (all_read_stays f.dlci hops past e) ∙ h.read_are;
  renewals_are = let same = lanes_stay f.dlci hops past e in let few = h.renewals_are in omega (arith, same, few);
  dropped_are = h.dropped_are ∙ ap (λ (n : ℕ). min n (2 ^ 64 - 1)) (sym (unsent_stays f.dlci hops past e));
}

-- ## What decides of the data of d

-- octets given and read on other connections leave it as it was
pub record IsBeside (role : Role) (d : ℕ) (past behind : List Pass) : Type 0 where
  pub carries_is : carries role d behind ≡ carries role d past
  pub wire_is : wire behind ≡ wire past
  pub to_go_is : to_go d behind ≡ to_go d past
  pub unread_is : unread role d behind ≡ unread role d past
  pub came_is : data_came role d behind ≡ data_came role d past
  pub read_is : data_read d behind ≡ data_read d past

-- without a hop it is as it was
pub beside_none : (role : Role) (d : ℕ) (past : List Pass) → IsBeside role d past past
beside_none role d past = record { carries_is = refl; wire_is = refl; to_go_is = refl; unread_is = refl; came_is = refl; read_is = refl }

-- and so it is behind some hops, and then others
pub beside_then : (role : Role) (d : ℕ) (first past behind : List Pass) → IsBeside role d first past → IsBeside role d past behind → IsBeside role d first behind
beside_then role d first past behind one two = record {
  carries_is = two.carries_is ∙ one.carries_is;
  wire_is = two.wire_is ∙ one.wire_is;
  to_go_is = two.to_go_is ∙ one.to_go_is;
  unread_is = two.unread_is ∙ one.unread_is;
  came_is = two.came_is ∙ one.came_is;
  read_is = two.read_is ∙ one.read_is;
}

-- octets that are given and read, and lanes that begin, change no lane of another connection, and no frame passes
record IsQuiet (role : Role) (d : ℕ) (past behind : List Pass) : Type 0 where
  pub carries_is : carries role d behind ≡ carries role d past
  pub wire_is : wire behind ≡ wire past
  pub left_is : left d behind ≡ left d past
  pub came_is : data_came role d behind ≡ data_came role d past

quiet : (role : Role) (c d : ℕ) → (c == d) ≡ false → (hops : List Hop) (past : List Pass) → list_all (is_of_file c) hops ≡ true → IsQuiet role d past (passes hops ++ past)
quiet role c d apart [] past e = record { carries_is = refl; wire_is = refl; left_is = refl; came_is = refl }
quiet role c d apart (Passed (Gave b o) ∷ hops) past e =
    let x = quiet role c d apart hops past (and_parts (b == c) (list_all (is_of_file c) hops) e).1 in
    record { carries_is = x.carries_is; wire_is = x.wire_is; left_is = x.left_is; came_is = x.came_is }
quiet role c d apart (Passed (Read b o) ∷ hops) past e =
    let x = quiet role c d apart hops past (and_parts (b == c) (list_all (is_of_file c) hops) e).1 in
    record { carries_is = x.carries_is; wire_is = x.wire_is; left_is = x.left_is; came_is = x.came_is }
quiet role c d apart (Passed (Began b k u) ∷ hops) past e =
    let both = and_parts (b == c) (list_all (is_of_file c) hops) e in
    let x = quiet role c d apart hops past both.1 in
    let other : (if b == d then false else true) ≡ true = if_apart (b == d) (not_both b c d apart both.0) in
    record {
      carries_is = given_if (b == d) (begin_of k) (carries role d (passes hops ++ past)) other ∙ x.carries_is;
      wire_is = x.wire_is;
      left_is = given_if (b == d) [] (left d (passes hops ++ past)) other ∙ x.left_is;
      came_is = given_if (b == d) [] (data_came role d (passes hops ++ past)) other ∙ x.came_is;
    }
quiet role c d apart (Passed (Came f) ∷ hops) past e = cc
quiet role c d apart (Passed (Went f) ∷ hops) past e = cc
quiet role c d apart (Passed (Flowed f) ∷ hops) past e = cc
quiet role c d apart (Passed (Left f) ∷ hops) past e = cc
quiet role c d apart (Passed Lost ∷ hops) past e = cc
quiet role c d apart (Passed (EndedLane b) ∷ hops) past e = cc
quiet role c d apart (Fed o ∷ hops) past e = cc
quiet role c d apart (Handed o ∷ hops) past e = cc
quiet role c d apart (Took o ∷ hops) past e = cc
quiet role c d apart (Wrote o ∷ hops) past e = cc

-- and behind those of another connection's file
pub beside_file : (role : Role) (c d : ℕ) → (c == d) ≡ false → (hops : List Hop) (past : List Pass) → list_all (is_of_file c) hops ≡ true → IsBeside role d past (passes hops ++ past)
beside_file role c d apart hops past e =
    let x = quiet role c d apart hops past e in
    let others = all_kind (is_of_file c) (is_beside d) hops (of_file_beside c d apart) e in
    record {
      carries_is = x.carries_is;
      wire_is = x.wire_is;
      to_go_is = ap₂ (λ (xs ys : List ℕ). length xs - length ys) (given_stays d hops past others) x.left_is;
      unread_is = ap₂ (λ (xs ys : List ℕ). length xs - length ys) x.came_is (read_stays d hops past others);
      came_is = x.came_is;
      read_is = read_stays d hops past others;
    }
