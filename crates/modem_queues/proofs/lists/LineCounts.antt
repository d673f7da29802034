-- Lines that come and go are counted.
use Rattle.std.proofs.Common.{ap, sym, ◌∙◌, subst, arith, inl, inr, take-append-drop}
use Rattle.std.proofs.lemmas.Bool.{cases_eq, eq-eqb, ne_eqb, ltb-true}
use Rattle.std.proofs.lemmas.Bool.Decides.{nat_tests}
use Rattle.std.proofs.lemmas.Nat.{le_or_l, le_or_r, or_lt}
use Rattle.std.proofs.lemmas.List.{get_or-set_same, get_or-set_other, get_or-replicate, length-set, length-append, length-replicate, length-take-le}
use Rattle.std.proofs.lemmas.List.Elements.{filter-append}
use Rattle.std.proofs.lemmas.List.Filters.{length-filter_both}
use Rattle.std.proofs.lemmas.List.Folds.{list_all_at}
use Rattle.std.proofs.Math.Numerals.{add-one}
use Rattle.std.proofs.Math.Seq.{take-suc, take-length, take-append_seam, drop-append_seam}
use Rattle.std.specs.Prelude.{◌≡◌, ◌≢◌, ◌⊎◌, ℕ, suc, ◌+◌, ◌-◌, ◌<◌, ◌≤◌, ◌==◌, ◌&&◌, Bool, true, false, nat_lt, List, [], ◌∷◌, ◌++◌, length, take, drop, filter, slice_index_or, slice_set, refl, replicate, not, if◌then◌else◌}
use Rattle.std.specs.Int.Bits.{bit_or}
use Rattle.std.specs.List.{list_all}
use Rattle.modem_desk.specs.declared.request.Urc.{Urc}
use Rattle.at_text.specs.Kinds.{kind_place}
use Rattle.modem_history.specs.Sessions.{backlog_in}
use Rattle.modem_queues.specs.LineQueues.{of_key, place_of}
use Rattle.modem_queues.specs.LineQueues.{AreCounts, AreCounted, AreFewOnEach, channel_of, place_of}

-- how many have this number
many_of : (Urc → ℕ) → ℕ → List Urc → ℕ
many_of number n lines = length (filter (λ (u : Urc). number u == n) lines)

many_more : (number : Urc → ℕ) (n : ℕ) (xs ys : List Urc) → many_of number n (xs ++ ys) ≡ many_of number n xs + many_of number n ys
unfolding many_of
many_more number n xs ys = ap length (filter-append (λ (u : Urc). number u == n) xs ys) ∙ length-append (filter (λ (u : Urc). number u == n) xs) (filter (λ (u : Urc). number u == n) ys)

many_here : (number : Urc → ℕ) (u : Urc) (rest : List Urc) → many_of number (number u) (u ∷ rest) ≡ many_of number (number u) rest + 1
unfolding many_of
many_here number u rest = ap (λ (c : Bool). length (if c then u ∷ filter (λ (v : Urc). number v == number u) rest else filter (λ (v : Urc). number v == number u) rest)) (eq-eqb (number u) (number u) refl) ∙ (let one : suc (length (filter (λ (v : Urc). number v == number u) rest)) ≡ length (filter (λ (v : Urc). number v == number u) rest) + 1 = omega arith in one)

many_beside : (number : Urc → ℕ) (n : ℕ) (u : Urc) (rest : List Urc) → number u ≢ n → many_of number n (u ∷ rest) ≡ many_of number n rest
unfolding many_of
many_beside number n u rest ne =
    ap (λ (c : Bool). length (if c then u ∷ filter (λ (v : Urc). number v == n) rest else filter (λ (v : Urc). number v == n) rest)) (ne_eqb (number u) n ne)

many_few : (number : Urc → ℕ) (n : ℕ) (lines : List Urc) → many_of number n lines ≤ length lines
unfolding many_of
many_few number n lines = let both = length-filter_both (λ (u : Urc). number u == n) (λ (u : Urc). not (number u == n)) (λ u. refl) lines in omega (arith, both)

-- ## One more

-- a line that comes last raises the count of its number
pub raised : (number : Urc → ℕ) (counts : List ℕ) (lines : List Urc) (u : Urc) → AreCounts number counts lines → AreCounts number (slice_set counts (number u) (slice_index_or counts (number u) 0 + 1)) (lines ++ u ∷ [])
unfolding many_of
raised number counts lines u are n small = by_place (cases_eq n (number u))
  where
    within : n < length counts
    within = subst (λ (m : ℕ). n < m) (length-set counts (number u) (slice_index_or counts (number u) 0 + 1)) small

    more : many_of number n (lines ++ u ∷ []) ≡ many_of number n lines + many_of number n (u ∷ [])
    more = many_more number n lines (u ∷ [])

    by_place : (n ≡ number u) ⊎ (n ≢ number u) → slice_index_or (slice_set counts (number u) (slice_index_or counts (number u) 0 + 1)) n 0 ≡ many_of number n (lines ++ u ∷ [])
    by_place (inl e) =
        subst (λ (m : ℕ). slice_index_or (slice_set counts (number u) (slice_index_or counts (number u) 0 + 1)) m 0 ≡ many_of number m (lines ++ u ∷ [])) (sym e)
        (get_or-set_same counts (number u) (slice_index_or counts (number u) 0 + 1) 0 (subst (λ (m : ℕ). m < length counts) e within)
        ∙ (ap (λ (m : ℕ). m + 1) (are (number u) (subst (λ (m : ℕ). m < length counts) e within))
        ∙ sym (many_more number (number u) lines (u ∷ []) ∙ ap (λ (m : ℕ). many_of number (number u) lines + m) (many_here number u []))))
    by_place (inr ne) =
        get_or-set_other counts (number u) n (slice_index_or counts (number u) 0 + 1) 0 ne
        ∙ (are n within ∙ sym (more ∙ (ap (λ (m : ℕ). many_of number n lines + m) (many_beside number n u [] (λ e. ne (sym e))) ∙ none)))
      where
        none : many_of number n lines + many_of number n [] ≡ many_of number n lines
        none = omega arith

-- there are fewer than lines behind it
pub fewer_than : (number : Urc → ℕ) (counts : List ℕ) (lines : List Urc) (n many : ℕ) → AreCounts number counts lines → n < length counts → many ≡ length lines + 1 → slice_index_or counts n 0 < many
unfolding many_of
fewer_than number counts lines n many are small is =
    let same : slice_index_or counts n 0 ≡ many_of number n lines = are n small in
    let few = many_few number n lines in
    omega (arith, same, few, is)

-- ## Few of each connection

-- fewer than 256 in all are fewer of each
pub few_of_few : (lines : List Urc) → length lines < 256 → AreFewOnEach lines
unfolding many_of
few_of_few lines few d b = let on = many_few channel_of d lines in omega (arith, on, few)

-- each count is below 256
pub few_by_counts : (channels kinds : List ℕ) (lines : List Urc) → AreCounted channels kinds lines → list_all (λ (c : ℕ). nat_lt c 256) channels ≡ true → AreFewOnEach lines
unfolding many_of
few_by_counts channels kinds lines are all d b =
    let small = by_count (nat_lt (slice_index_or channels d 0) 256) refl in
    let same = are.by_channel d within in
    omega (arith, small, same)
  where
    within : d < length channels
    within = subst (λ (n : ℕ). d < n) (sym are.all_channels) b

    by_count : (x : Bool) → nat_lt (slice_index_or channels d 0) 256 ≡ x → slice_index_or channels d 0 < 256
    by_count true e = ltb-true (slice_index_or channels d 0) 256 e
    by_count false e = absurd (false_true (sym (list_all_at (λ (c : ℕ). nat_lt c 256) channels d 0 within e) ∙ all))
      where
        false_true : false ≡ true → ⊥
        false_true h = cc

-- two are below 256 where their bits together are
few_both : (a b : ℕ) → nat_lt (bit_or a b) 256 ≡ (nat_lt a 256 && nat_lt b 256)
few_both a b = by_tests (nat_lt a 256) refl (nat_lt b 256) refl
  where
    by_tests : (x : Bool) → nat_lt a 256 ≡ x → (y : Bool) → nat_lt b 256 ≡ y → nat_lt (bit_or a b) 256 ≡ (x && y)
    by_tests true e true f = let less = or_lt 8 a b (ltb-true a 256 e) (ltb-true b 256 f) in grind (arith, nat_tests, less)
    by_tests true e false f = let more = le_or_r a b in grind (arith, nat_tests, more)
    by_tests false e y f = let more = le_or_l a b in grind (arith, nat_tests, more)

-- those so far by their bits, and the others
abbrev pub FewSoFar : (bits : ℕ) → (left all : List ℕ) → Type 0
FewSoFar bits left all = (nat_lt bits 256 && list_all (λ (c : ℕ). nat_lt c 256) left) ≡ list_all (λ (c : ℕ). nat_lt c 256) all

-- the next count is looked at
pub few_further : (bits c : ℕ) (left rest all : List ℕ) → left ≡ c ∷ rest → FewSoFar bits left all → FewSoFar (bit_or bits c) rest all
few_further bits c left rest all split so_far =
    ap (λ (x : Bool). x && list_all (λ (n : ℕ). nat_lt n 256) rest) (few_both bits c)
    ∙ (and_assoc (nat_lt bits 256) (nat_lt c 256) (list_all (λ (n : ℕ). nat_lt n 256) rest)
    ∙ subst (λ (ns : List ℕ). FewSoFar bits ns all) split so_far)
  where
    and_assoc : (x y z : Bool) → ((x && y) && z) ≡ (x && (y && z))
    and_assoc true y z = refl
    and_assoc false y z = refl

-- once all were looked at, the bits are below 256 just where all counts are
pub few_last : (bits : ℕ) (left all : List ℕ) → left ≡ [] → FewSoFar bits left all → nat_lt bits 256 ≡ list_all (λ (c : ℕ). nat_lt c 256) all
few_last bits left all none so_far = sym (and_true (nat_lt bits 256)) ∙ subst (λ (ns : List ℕ). FewSoFar bits ns all) none so_far
  where
    and_true : (x : Bool) → (x && true) ≡ x
    and_true true = refl
    and_true false = refl

-- ## One fewer

-- once the first line goes the count of its number is lowered
pub lowered : (number : Urc → ℕ) (counts : List ℕ) (rest : List Urc) (u : Urc) → AreCounts number counts (u ∷ rest) → AreCounts number (slice_set counts (number u) (slice_index_or counts (number u) 0 - 1)) rest
unfolding many_of
lowered number counts rest u are n small = by_place (cases_eq n (number u))
  where
    within : n < length counts
    within = subst (λ (m : ℕ). n < m) (length-set counts (number u) (slice_index_or counts (number u) 0 - 1)) small

    by_place : (n ≡ number u) ⊎ (n ≢ number u) → slice_index_or (slice_set counts (number u) (slice_index_or counts (number u) 0 - 1)) n 0 ≡ many_of number n rest
    by_place (inl e) =
        let here : number u < length counts = subst (λ (m : ℕ). m < length counts) e within in
        let was : slice_index_or counts (number u) 0 ≡ many_of number (number u) rest + 1 = are (number u) here ∙ many_here number u rest in
        let less : slice_index_or counts (number u) 0 - 1 ≡ many_of number (number u) rest = omega (arith, was) in
        subst (λ (m : ℕ). slice_index_or (slice_set counts (number u) (slice_index_or counts (number u) 0 - 1)) m 0 ≡ many_of number m rest) (sym e)
        (get_or-set_same counts (number u) (slice_index_or counts (number u) 0 - 1) 0 here ∙ less)
    by_place (inr ne) =
        get_or-set_other counts (number u) n (slice_index_or counts (number u) 0 - 1) 0 ne ∙ (are n within ∙ many_beside number n u rest (λ e. ne (sym e)))

-- ## The others

-- of no lines all counts are 0
pub none_counted : (number : Urc → ℕ) (n : ℕ) → AreCounts number (replicate n 0) []
none_counted number n k small = get_or-replicate n k 0 0 (subst (λ (m : ℕ). k < m) (length-replicate n 0) small)

-- the counts stay as some first lines go behind the others
pub turned_round : (number : Urc → ℕ) (counts : List ℕ) (lines : List Urc) (count : ℕ) → AreCounts number counts lines → AreCounts number counts (drop count lines ++ take count lines)
unfolding many_of
turned_round number counts lines count are n small =
    are n small
    ∙ (ap (many_of number n) (sym (take-append-drop count lines))
    ∙ (many_more number n (take count lines) (drop count lines) ∙ (swapped ∙ sym (many_more number n (drop count lines) (take count lines)))))
  where
    swapped : many_of number n (take count lines) + many_of number n (drop count lines) ≡ many_of number n (drop count lines) + many_of number n (take count lines)
    swapped = omega arith

-- ## Both counts

-- one more of connection d and of the kind at place k
pub counted_last : (channels kinds later_channels later_kinds : List ℕ) (lines later : List Urc) (u : Urc) (d k : ℕ) → AreCounted channels kinds lines → later ≡ lines ++ u ∷ [] → d ≡ u.dlci.number → k ≡ kind_place u.kind
    → later_channels ≡ slice_set channels d (slice_index_or channels d 0 + 1) → later_kinds ≡ slice_set kinds k (slice_index_or kinds k 0 + 1)
    → AreCounted later_channels later_kinds later
counted_last channels kinds later_channels later_kinds lines later u d k are is d_is k_is by_channel by_kind =
    let channels_are : later_channels ≡ slice_set channels u.dlci.number (slice_index_or channels u.dlci.number 0 + 1) = by_channel ∙ ap (λ (n : ℕ). slice_set channels n (slice_index_or channels n 0 + 1)) d_is in
    let kinds_are : later_kinds ≡ slice_set kinds (kind_place u.kind) (slice_index_or kinds (kind_place u.kind) 0 + 1) = by_kind ∙ ap (λ (n : ℕ). slice_set kinds n (slice_index_or kinds n 0 + 1)) k_is in
    subst (AreCounted later_channels later_kinds) (sym is)
    (record {
      all_channels = ap length channels_are ∙ (length-set channels u.dlci.number (slice_index_or channels u.dlci.number 0 + 1) ∙ are.all_channels);
      all_kinds = ap length kinds_are ∙ (length-set kinds (kind_place u.kind) (slice_index_or kinds (kind_place u.kind) 0 + 1) ∙ are.all_kinds);
      by_channel = subst (λ (cs : List ℕ). AreCounts channel_of cs (lines ++ u ∷ [])) (sym channels_are) (raised channel_of channels lines u are.by_channel);
      by_kind = subst (λ (cs : List ℕ). AreCounts place_of cs (lines ++ u ∷ [])) (sym kinds_are) (raised place_of kinds lines u are.by_kind);
    })

-- one fewer
pub counted_rest : (channels kinds later_channels later_kinds : List ℕ) (lines rest : List Urc) (u : Urc) (d k : ℕ) → AreCounted channels kinds lines → lines ≡ u ∷ rest → d ≡ u.dlci.number → k ≡ kind_place u.kind
    → later_channels ≡ slice_set channels d (slice_index_or channels d 0 - 1) → later_kinds ≡ slice_set kinds k (slice_index_or kinds k 0 - 1)
    → AreCounted later_channels later_kinds rest
counted_rest channels kinds later_channels later_kinds lines rest u d k are is d_is k_is by_channel by_kind =
    let were = subst (AreCounted channels kinds) is are in
    let channels_are : later_channels ≡ slice_set channels u.dlci.number (slice_index_or channels u.dlci.number 0 - 1) = by_channel ∙ ap (λ (n : ℕ). slice_set channels n (slice_index_or channels n 0 - 1)) d_is in
    let kinds_are : later_kinds ≡ slice_set kinds (kind_place u.kind) (slice_index_or kinds (kind_place u.kind) 0 - 1) = by_kind ∙ ap (λ (n : ℕ). slice_set kinds n (slice_index_or kinds n 0 - 1)) k_is in
    record {
      all_channels = ap length channels_are ∙ (length-set channels u.dlci.number (slice_index_or channels u.dlci.number 0 - 1) ∙ are.all_channels);
      all_kinds = ap length kinds_are ∙ (length-set kinds (kind_place u.kind) (slice_index_or kinds (kind_place u.kind) 0 - 1) ∙ are.all_kinds);
      by_channel = subst (λ (cs : List ℕ). AreCounts channel_of cs rest) (sym channels_are) (lowered channel_of channels rest u were.by_channel);
      by_kind = subst (λ (cs : List ℕ). AreCounts place_of cs rest) (sym kinds_are) (lowered place_of kinds rest u were.by_kind);
    }

-- so do both counts
pub counted_round : (channels kinds : List ℕ) (lines later : List Urc) (count : ℕ) → AreCounted channels kinds lines → later ≡ drop count lines ++ take count lines → AreCounted channels kinds later
counted_round channels kinds lines later count are is =
    subst (AreCounted channels kinds) (sym is)
    (record {
      all_channels = are.all_channels;
      all_kinds = are.all_kinds;
      by_channel = turned_round channel_of channels lines count are.by_channel;
      by_kind = turned_round place_of kinds lines count are.by_kind;
    })

-- the last is counted no more
pub counted_before : (channels kinds later_channels later_kinds : List ℕ) (lines before : List Urc) (u : Urc) (d k : ℕ) → AreCounted channels kinds lines → lines ≡ before ++ u ∷ [] → d ≡ u.dlci.number → k ≡ kind_place u.kind
    → later_channels ≡ slice_set channels d (slice_index_or channels d 0 - 1) → later_kinds ≡ slice_set kinds k (slice_index_or kinds k 0 - 1)
    → AreCounted later_channels later_kinds before
counted_before channels kinds later_channels later_kinds lines before u d k are is d_is k_is by_channel by_kind =
    let n = length before in
    let round : u ∷ before ≡ drop n lines ++ take n lines =
    sym (ap (λ (ls : List Urc). drop n ls ++ take n ls) is
    ∙ (ap (λ (ls : List Urc). ls ++ take n (before ++ u ∷ [])) (drop-append_seam before (u ∷ []))
    ∙ ap (λ (ls : List Urc). u ∷ ls) (take-append_seam before (u ∷ [])))) in
    counted_rest channels kinds later_channels later_kinds (u ∷ before) before u d k (counted_round channels kinds lines (u ∷ before) n are round) refl d_is k_is by_channel by_kind

-- of no lines both have 0 everywhere
pub counted_at_first : (lines : List Urc) → lines ≡ [] → AreCounted (replicate 62 0) (replicate 263 0) lines
counted_at_first lines is = subst (AreCounted (replicate 62 0) (replicate 263 0)) (sym is)
    (record { all_channels = length-replicate {A = ℕ} 62 0; all_kinds = length-replicate {A = ℕ} 263 0; by_channel = none_counted channel_of 62; by_kind = none_counted place_of 263 })

-- ## Those that stand in a list

-- before the first line none is counted
pub counted_none : (lines : List Urc) → AreCounted (replicate 62 0) (replicate 263 0) (take 0 lines)
counted_none lines = counted_at_first (take 0 lines) refl

-- there are fewer than all lines, while some are still to be counted
pub room_further : (number : Urc → ℕ) (counts : List ℕ) (lines : List Urc) (n i many : ℕ) → AreCounts number counts (take i lines) → n < length counts → i < many → many ≡ length lines → slice_index_or counts n 0 < many
unfolding many_of
room_further number counts lines n i many are small less is =
    let same : slice_index_or counts n 0 ≡ many_of number n (take i lines) = are n small in
    let few = many_few number n (take i lines) in
    let short : length (take i lines) ≡ i = length-take-le i lines (omega arith) in
    omega (arith, same, few, short)

-- the line at the next place is counted
pub counted_further : (channels kinds later_channels later_kinds : List ℕ) (lines : List Urc) (i : ℕ) (u : Urc) (d k : ℕ) → i < length lines → u ≡ slice_index_or lines i u → AreCounted channels kinds (take i lines) → d ≡ u.dlci.number → k ≡ kind_place u.kind
    → later_channels ≡ slice_set channels d (slice_index_or channels d 0 + 1) → later_kinds ≡ slice_set kinds k (slice_index_or kinds k 0 + 1)
    → AreCounted later_channels later_kinds (take (i + 1) lines)
counted_further channels kinds later_channels later_kinds lines i u d k inside is are d_is k_is by_channel by_kind =
    counted_last channels kinds later_channels later_kinds (take i lines) (take (i + 1) lines) u d k are (rw add-one (take-suc lines i u inside ∙ ap (λ (x : Urc). take i lines ++ x ∷ []) (sym is))) d_is k_is by_channel by_kind

-- behind the last all are
pub counted_all : (channels kinds : List ℕ) (lines : List Urc) (i : ℕ) → i ≡ length lines → AreCounted channels kinds (take i lines) → AreCounted channels kinds lines
counted_all channels kinds lines i all are = subst (AreCounted channels kinds) (ap (λ (n : ℕ). take n lines) all ∙ take-length lines) are

-- ## Looking at a count

-- the count of a connection is its backlog
pub counts_channel : (channels kinds : List ℕ) (lines : List Urc) (d : ℕ) → AreCounted channels kinds lines → d < 62 → slice_index_or channels d 0 ≡ backlog_in d lines
counts_channel channels kinds lines d are small = are.by_channel d (subst (λ (n : ℕ). d < n) (sym are.all_channels) small)

-- the count of a kind is how many lines of it wait
pub counts_kind : (channels kinds : List ℕ) (lines : List Urc) (k : ℕ) → AreCounted channels kinds lines → k < 263 → slice_index_or kinds k 0 ≡ length (of_key place_of k lines)
counts_kind channels kinds lines k are small = are.by_kind k (subst (λ (n : ℕ). k < n) (sym are.all_kinds) small)

-- there are fewer than lines with the one behind it
pub channel_room : (channels kinds : List ℕ) (lines later : List Urc) (u : Urc) (d many : ℕ) → AreCounted channels kinds lines → d < 62 → later ≡ lines ++ u ∷ [] → many ≡ length later → slice_index_or channels d 0 < many
channel_room channels kinds lines later u d many are small is long = fewer_than channel_of channels lines d many are.by_channel (subst (λ (n : ℕ). d < n) (sym are.all_channels) small) (long ∙ (ap length is ∙ length-append lines (u ∷ [])))

-- and fewer of its kind too
pub kind_room : (channels kinds : List ℕ) (lines later : List Urc) (u : Urc) (k many : ℕ) → AreCounted channels kinds lines → k < 263 → later ≡ lines ++ u ∷ [] → many ≡ length later → slice_index_or kinds k 0 < many
kind_room channels kinds lines later u k many are small is long = fewer_than place_of kinds lines k many are.by_kind (subst (λ (n : ℕ). k < n) (sym are.all_kinds) small) (long ∙ (ap length is ∙ length-append lines (u ∷ [])))
