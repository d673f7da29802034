-- What was printed, by the numbers that the matches of the subcommand give.
use Rattle.std.proofs.Common.{◌≡◌, ◌∙◌, ◌⊎◌, ◌||◌, ⊎_elim, ℕ, Bool, ap, arith, is_some, rules, sym, subst, inl, inr, List, Option, None, Some, option_map, codes, refl, true}
use Rattle.clap.specs.Words.{Row, Text, all_of, first_of, first_value, found_of, one_of, one_text, rows_of, subcommand_rows_of}
use Rattle.clap.specs.declared.ArgMatches.{ArgMatches}
use Rattle.clap.proofs.WalkLemmas.{first_value-rows, one_text-rows, raw_values-rows}
use Rattle.modemctl.specs.Words.{HasNoNumber, IsGiven, IsNoNumber, IsNumberOf, is_explained, is_set, raw_in, text_in}
use Rattle.ctl_run.specs.Dump.{IsNoDump}
use Rattle.ctl_run.specs.LineFaults.{DumpFault, EventFault}
use Rattle.ctl_run.specs.Script.{IsNoOrder}
use Rattle.ctl_run.specs.Stopping.{HasGivenUp, IsBenchStop, IsRunStop}
use Rattle.ctl_sim.specs.declared.serving.SimOptions.{SimOptions}
use Rattle.ctl_sim.specs.Watching.{CapturesClient}
use Rattle.modemctl.specs.Benches.{AreGiven, AreMatched, AreOwn, AreScripted, IsFlag}
use Rattle.modemctl.specs.Sims.{FailsClient, IsNotBegun, LeavesClient, LeavesWith, RefusesClient, RefusesWith, SaysBadFile, SimFiles, files_given, files_matched}
use Rattle.ctl_drive.specs.Entry.{entry_for}
use Rattle.modemctl.specs.Dialects.{IsGivenDialect, IsShut, PrintsActs}
use Rattle.modemctl.specs.Drives.{DrivesWith, IsDriveDialect, PrintsDrive, RanGiven, millis}
use Rattle.modemctl.specs.Files.{IsNoText, NamesCause}
use Rattle.modemctl.specs.Refusals.{RefusesShow, SaysUndriven, StopsBadly}
use Rattle.modemctl.specs.SimData.{LeavesData, SaysNoPaths, ServesData, gives_some, names_files}
use Rattle.modemctl.specs.Shows.{AreChannels, AreWanted, AreWantedBy, IsShutFile, PrintsShow, SaysUnshown, ShowsFiles, ShowsWith, TellsShow, all_in, given_for}
use Rattle.show_texts.specs.Progress.{ProgressState}
use Rattle.show_texts.specs.declared.run.ShowOptions.{ShowOptions}
use Rattle.modemctl.proofs.Refused.{stops_two}
use Rattle.modemctl.proofs.ShownFiles.{not_shown}
use Rattle.modemctl.proofs.words.run_named.Goals as goal

of_rows : (met : Option (Text × List Row)) (rows : List Row) (option : Text) → Some rows ≡ option_map (λ p. p.1) met → one_of option rows ≡ text_in met option
of_rows None rows option e = cc
of_rows (Some p) rows option e = let same : Some rows ≡ Some p.1 = e in let rows_are : rows ≡ p.1 = cc in ap (one_of option) rows_are

-- what the matches of the subcommand have for an option
given_in : (top m : ArgMatches) (option : Text) → Some (rows_of (found_of m)) ≡ option_map (λ p. p.1) (subcommand_rows_of top) → one_text (found_of m) option ≡ text_in (subcommand_rows_of top) option
given_in top m option e = one_text-rows (found_of m) option ∙ of_rows (subcommand_rows_of top) (rows_of (found_of m)) option e

of_words : (met : Option (Text × List Row)) (rows : List Row) (option : Text) → Some rows ≡ option_map (λ p. p.1) met → first_of option rows ≡ raw_in met option
of_words None rows option e = cc
of_words (Some p) rows option e = let same : Some rows ≡ Some p.1 = e in let rows_are : rows ≡ p.1 = cc in ap (first_of option) rows_are

-- the same as it stands there
word_given : (top m : ArgMatches) (option : Text) → Some (rows_of (found_of m)) ≡ option_map (λ p. p.1) (subcommand_rows_of top) → first_value (found_of m) option ≡ raw_in (subcommand_rows_of top) option
word_given top m option e = first_value-rows (found_of m) option ∙ of_words (subcommand_rows_of top) (rows_of (found_of m)) option e

-- the number that they give for it
number_in : (top m : ArgMatches) (option : Text) (default n : ℕ) → Some (rows_of (found_of m)) ≡ option_map (λ p. p.1) (subcommand_rows_of top) → IsNumberOf default (one_text (found_of m) option) n
    → IsGiven (subcommand_rows_of top) option default n
number_in top m option default n e is = subst (λ (t : Option Text). IsNumberOf default t n) (given_in top m option e) is

some_number : (t : Option Text) (default n : ℕ) → IsNumberOf default t n → IsNoNumber t → ⊥
some_number None default n is none = none
some_number (Some t) default n is none = none n is

-- numbers were read, so each text is one
all_numbers : (top m : ArgMatches) (n1 callers cut : ℕ) → Some (rows_of (found_of m)) ≡ option_map (λ p. p.1) (subcommand_rows_of top) → IsNumberOf 31 (one_text (found_of m) (codes "n1")) n1
    → IsNumberOf 2 (one_text (found_of m) (codes "callers")) callers
    → IsNumberOf 64 (one_text (found_of m) (codes "cut")) cut
    → HasNoNumber (subcommand_rows_of top)
    → ⊥
all_numbers top m n1 callers cut e one two three none =
    ⊎_elim (some_number (text_in (subcommand_rows_of top) (codes "n1")) 31 n1 (number_in top m (codes "n1") 31 n1 e one))
    (λ (more : IsNoNumber (text_in (subcommand_rows_of top) (codes "callers")) ⊎ IsNoNumber (text_in (subcommand_rows_of top) (codes "cut"))).
    ⊎_elim (some_number (text_in (subcommand_rows_of top) (codes "callers")) 2 callers (number_in top m (codes "callers") 2 callers e two))
    (some_number (text_in (subcommand_rows_of top) (codes "cut")) 64 cut (number_in top m (codes "cut") 64 cut e three)) more)
    none

pub returns-in-frames-clause-unread : goal.returns-in-frames-clause-unread
returns-in-frames-clause-unread g c none =
    absurd (all_numbers c.args.matches.now c.in-Some.given.now c.in-Ok.numbers.n1 c.in-Ok.numbers.callers c.in-Ok.numbers.cut c.in-Some.ensures.rows c.in-Ok.ensures.n1 c.in-Ok.ensures.callers c.in-Ok.ensures.cut none)

pub returns-in-replay-clause-unread : goal.returns-in-replay-clause-unread
returns-in-replay-clause-unread g c none =
    absurd (all_numbers c.args.matches.now c.in-Some.given.now c.in-Ok.numbers.n1 c.in-Ok.numbers.callers c.in-Ok.numbers.cut c.in-Some.ensures.rows c.in-Ok.ensures.n1 c.in-Ok.ensures.callers c.in-Ok.ensures.cut none)

pub returns-in-bench-clause-unread : goal.returns-in-bench-clause-unread
returns-in-bench-clause-unread g c none =
    absurd (all_numbers c.args.matches.now c.in-Some.given.now c.in-Ok.numbers.n1 c.in-Ok.numbers.callers c.in-Ok.numbers.cut c.in-Some.ensures.rows c.in-Ok.ensures.n1 c.in-Ok.ensures.callers c.in-Ok.ensures.cut none)

pub returns-in-sim-clause-unread : goal.returns-in-sim-clause-unread
returns-in-sim-clause-unread g c none =
    absurd (all_numbers c.args.matches.now c.in-Some.given.now c.in-Ok.numbers.n1 c.in-Ok.numbers.callers c.in-Ok.numbers.cut c.in-Some.ensures.rows c.in-Ok.ensures.n1 c.in-Ok.ensures.callers c.in-Ok.ensures.cut none)

pub returns-in-frames-clause-frames : goal.returns-in-frames-clause-frames
returns-in-frames-clause-frames g c zero named = record {
  n1 = c.in-Ok.numbers.n1;
  given = number_in c.args.matches.now c.in-Some.given.now (codes "n1") 31 c.in-Ok.numbers.n1 c.in-Some.ensures.rows c.in-Ok.ensures.n1;
  printed = c.frames_run_explained.ensures.done zero;
}

pub returns-in-replay-clause-replay : goal.returns-in-replay-clause-replay
returns-in-replay-clause-replay g c zero named = record {
  n1 = c.in-Ok.numbers.n1;
  given = number_in c.args.matches.now c.in-Some.given.now (codes "n1") 31 c.in-Ok.numbers.n1 c.in-Some.ensures.rows c.in-Ok.ensures.n1;
  printed =
      subst (λ (t : Option Text). PrintsActs (g.R.TextFiles.text_of c.args.rt.now) t c.in-Ok.numbers.n1 (g.I.Read.remaining c.args.input.now) (g.W.Write.contents c.args.output.now) (g.W.Write.contents c.replay_words.new.output))
      (word_given c.args.matches.now c.in-Some.given.now (codes "dialect") c.in-Some.ensures.rows) (c.replay_words.ensures.done zero);
}

pub returns-in-bench-clause-bench : goal.returns-in-bench-clause-bench
returns-in-bench-clause-bench g c zero named = record {
  callers = c.in-Ok.numbers.callers;
  callers_given = number_in c.args.matches.now c.in-Some.given.now (codes "callers") 2 c.in-Ok.numbers.callers c.in-Some.ensures.rows c.in-Ok.ensures.callers;
  cut = c.in-Ok.numbers.cut;
  cut_given = number_in c.args.matches.now c.in-Some.given.now (codes "cut") 64 c.in-Ok.numbers.cut c.in-Some.ensures.rows c.in-Ok.ensures.cut;
  printed = c.bench_plain.ensures.done zero;
}

are_given : (texts : Text → Option (List ℕ)) (top m : ArgMatches) (n1 : ℕ) (options : SimOptions) → Some (rows_of (found_of m)) ≡ option_map (λ p. p.1) (subcommand_rows_of top) → IsNumberOf 31 (one_text (found_of m) (codes "n1")) n1
    → AreMatched texts n1 m options → AreGiven texts (subcommand_rows_of top) options
are_given texts top m n1 options rows number matched = record {
  n1_given = number_in top m (codes "n1") 31 options.n1 rows (subst (λ (n : ℕ). IsNumberOf 31 (one_text (found_of m) (codes "n1")) n) (sym matched.n1_is) number);
  pin_given = matched.pin_is ∙ word_given top m (codes "pin") rows;
  echo_given = subst (λ (t : Option Text). IsFlag t options.echo) (given_in top m (codes "echo") rows) matched.echo_is;
  steps_given = subst (λ (t : Option Text). AreScripted texts t options.steps) (word_given top m (codes "script") rows) matched.steps_are;
  answers_given = subst (λ (t : Option Text). AreOwn texts t options.answers) (word_given top m (codes "answers") rows) matched.answers_are;
}

of_all : (met : Option (Text × List Row)) (rows : List Row) (option : Text) → Some rows ≡ option_map (λ p. p.1) met → all_of option rows ≡ all_in met option
of_all None rows option e = cc
of_all (Some p) rows option e = let same : Some rows ≡ Some p.1 = e in let rows_are : rows ≡ p.1 = cc in ap (all_of option) rows_are

-- all that the words give for an option
words_given : (top m : ArgMatches) (option : Text) → Some (rows_of (found_of m)) ≡ option_map (λ p. p.1) (subcommand_rows_of top)
    → given_for m option ≡ all_in (subcommand_rows_of top) option
words_given top m option e = raw_values-rows (found_of m) option ∙ of_all (subcommand_rows_of top) (rows_of (found_of m)) option e

-- whether the words name files beside connections
files_named : (top m : ArgMatches) → Some (rows_of (found_of m)) ≡ option_map (λ p. p.1) (subcommand_rows_of top) → gives_some (given_for m (codes "data")) ≡ names_files (subcommand_rows_of top)
files_named top m rows = ap gives_some (words_given top m (codes "data") rows)

pub returns-in-sim-clause-sim : goal.returns-in-sim-clause-sim
returns-in-sim-clause-sim g c zero named none =
    let serves = c.sim_any.ensures.served zero (files_named c.args.matches.now c.in-Some.given.now c.in-Some.ensures.rows ∙ none) in
    record {
      options = serves.options;
      given = are_given (g.R.TextFiles.text_of c.args.rt.now) c.args.matches.now c.in-Some.given.now c.in-Ok.numbers.n1 serves.options c.in-Some.ensures.rows c.in-Ok.ensures.n1 serves.matched;
      served = serves.served;
      captured =
          subst (λ (t : Option Text). CapturesClient (is_some t) serves.options (g.I.Read.remaining c.args.input.now) (g.W.Write.contents c.args.output.now) (g.W.Write.contents c.sim_any.new.output))
          (word_given c.args.matches.now c.in-Some.given.now (codes "capture") c.in-Some.ensures.rows) serves.captured;
    }

same_files : (top m : ArgMatches) → Some (rows_of (found_of m)) ≡ option_map (λ p. p.1) (subcommand_rows_of top) → files_matched m ≡ files_given (subcommand_rows_of top)
same_files top m rows = λ i. record { script = word_given top m (codes "script") rows i; answers = word_given top m (codes "answers") rows i; capture = word_given top m (codes "capture") rows i }

leaves_client : {I O : Type 0} (texts : Text → Option (List ℕ)) (top m : ArgMatches) (n1 : ℕ) (input rest before after told_before told_after : Option (List ℕ)) (was is : I) (old new : O) → Some (rows_of (found_of m)) ≡ option_map (λ p. p.1) (subcommand_rows_of top)
    → IsNumberOf 31 (one_text (found_of m) (codes "n1")) n1
    → IsNotBegun (files_matched m) was is old new told_before told_after ⊎ LeavesWith texts n1 m input rest before after told_before told_after
    → IsNotBegun (files_given (subcommand_rows_of top)) was is old new told_before told_after ⊎ LeavesClient texts (subcommand_rows_of top) input rest before after told_before told_after
leaves_client texts top m n1 input rest before after told_before told_after was is old new rows number (inl none) =
    inl (subst (λ (f : SimFiles). IsNotBegun f was is old new told_before told_after) (same_files top m rows) none)
leaves_client texts top m n1 input rest before after told_before told_after was is old new rows number (inr leaves) = inr (record {
  options = leaves.options;
  given = are_given texts top m n1 leaves.options rows number leaves.matched;
  fails = subst (λ (t : Option Text). FailsClient (is_some t) leaves.options input rest before after told_before told_after) (word_given top m (codes "capture") rows) leaves.fails;
})

pub returns-in-sim-clause-sim_left : goal.returns-in-sim-clause-sim_left
returns-in-sim-clause-sim_left g c one named none =
    leaves_client (g.R.TextFiles.text_of c.args.rt.now) c.args.matches.now c.in-Some.given.now c.in-Ok.numbers.n1 _ _ _ _ _ _ _ _ _ _ c.in-Some.ensures.rows c.in-Ok.ensures.n1 (c.sim_any.ensures.left one (files_named c.args.matches.now c.in-Some.given.now c.in-Some.ensures.rows ∙ none))

refuses_client : (texts : Text → Option (List ℕ)) (top m : ArgMatches) (n1 : ℕ) (told_before told_after : Option (List ℕ)) → Some (rows_of (found_of m)) ≡ option_map (λ p. p.1) (subcommand_rows_of top) → IsNumberOf 31 (one_text (found_of m) (codes "n1")) n1
    → RefusesWith texts n1 m told_before told_after → RefusesClient texts (subcommand_rows_of top) told_before told_after
refuses_client texts top m n1 told_before told_after rows number (inl line) = inr (inl (subst (λ (f : SimFiles). SaysBadFile texts f told_before told_after) (same_files top m rows) line))
refuses_client texts top m n1 told_before told_after rows number (inr bad) = inr (inr (record { options = bad.options; given = are_given texts top m n1 bad.options rows number bad.matched; says = bad.says }))

pub returns-in-sim-clause-sim_bad : goal.returns-in-sim-clause-sim_bad
returns-in-sim-clause-sim_bad g c two named none =
    refuses_client (g.R.TextFiles.text_of c.args.rt.now) c.args.matches.now c.in-Some.given.now c.in-Ok.numbers.n1 _ _ c.in-Some.ensures.rows c.in-Ok.ensures.n1 (c.sim_any.ensures.told two (files_named c.args.matches.now c.in-Some.given.now c.in-Some.ensures.rows ∙ none))

pub returns-in-sim-clause-sim_data : goal.returns-in-sim-clause-sim_data
returns-in-sim-clause-sim_data g c zero named some =
    subst (λ (t : Option (List Text)). ServesData t (g.E.Write.contents c.args.faults.now) (g.E.Write.contents c.sim_any.new.faults))
    (words_given c.args.matches.now c.in-Some.given.now (codes "data") c.in-Some.ensures.rows)
    (c.sim_any.ensures.served_data zero (files_named c.args.matches.now c.in-Some.given.now c.in-Some.ensures.rows ∙ some))

leaves_data : {O : Type 0} (top m : ArgMatches) (old new : O) (told_before told_after : Option (List ℕ)) → Some (rows_of (found_of m)) ≡ option_map (λ p. p.1) (subcommand_rows_of top)
    → LeavesData (files_matched m) (given_for m (codes "data")) old new told_before told_after
    → LeavesData (files_given (subcommand_rows_of top)) (all_in (subcommand_rows_of top) (codes "data")) old new told_before told_after
leaves_data top m old new told_before told_after rows leaves =
    subst (λ (t : SimFiles × Option (List Text)). LeavesData t.0 t.1 old new told_before told_after)
    (λ i. (same_files top m rows i, words_given top m (codes "data") rows i)) leaves

pub returns-in-sim-clause-sim_data_left : goal.returns-in-sim-clause-sim_data_left
returns-in-sim-clause-sim_data_left g c one named some =
    leaves_data c.args.matches.now c.in-Some.given.now _ _ _ _ c.in-Some.ensures.rows
    (c.sim_any.ensures.left_data one (files_named c.args.matches.now c.in-Some.given.now c.in-Some.ensures.rows ∙ some))

no_paths_or : (texts : Text → Option (List ℕ)) (top m : ArgMatches) (n1 : ℕ) (told_before told_after : Option (List ℕ)) → Some (rows_of (found_of m)) ≡ option_map (λ p. p.1) (subcommand_rows_of top) → IsNumberOf 31 (one_text (found_of m) (codes "n1")) n1
    → SaysNoPaths told_before told_after ⊎ RefusesWith texts n1 m told_before told_after
    → SaysNoPaths told_before told_after ⊎ RefusesClient texts (subcommand_rows_of top) told_before told_after
no_paths_or texts top m n1 told_before told_after rows number (inl none) = inl none
no_paths_or texts top m n1 told_before told_after rows number (inr refuses) = inr (refuses_client texts top m n1 told_before told_after rows number refuses)

pub returns-in-sim-clause-sim_data_bad : goal.returns-in-sim-clause-sim_data_bad
returns-in-sim-clause-sim_data_bad g c two named some =
    no_paths_or (g.R.TextFiles.text_of c.args.rt.now) c.args.matches.now c.in-Some.given.now c.in-Ok.numbers.n1 _ _ c.in-Some.ensures.rows c.in-Ok.ensures.n1
    (c.sim_any.ensures.told_data two (files_named c.args.matches.now c.in-Some.given.now c.in-Some.ensures.rows ∙ some))

pub returns-in-sim-clause-sim_data_unread : goal.returns-in-sim-clause-sim_data_unread
returns-in-sim-clause-sim_data_unread g c named some = c.sim_any.ensures.unread (files_named c.args.matches.now c.in-Some.given.now c.in-Some.ensures.rows ∙ some)

pub returns-in-sim-clause-silent : goal.returns-in-sim-clause-silent
returns-in-sim-clause-silent g c zero no_drive none_for =
    c.sim_any.ensures.silent zero (files_named c.args.matches.now c.in-Some.given.now c.in-Some.ensures.rows ∙ none_for (search rules))

pub returns-in-Err-clause-sim_bad : goal.returns-in-Err-clause-sim_bad
returns-in-Err-clause-sim_bad g c two named none = inl (record { option = _; said = c.refuse.ensures.said })

pub returns-in-Err-clause-sim_data_bad : goal.returns-in-Err-clause-sim_data_bad
returns-in-Err-clause-sim_data_bad g c two named some = inr (inl (record { option = _; said = c.refuse.ensures.said }))

prints_drive : (texts : Text → Option (List ℕ)) (top m : ArgMatches) (n1 : ℕ) (before after silent said : Option (List ℕ)) (was_bad : Bool) → Some (rows_of (found_of m)) ≡ option_map (λ p. p.1) (subcommand_rows_of top) → IsNumberOf 31 (one_text (found_of m) (codes "n1")) n1
    → DrivesWith texts n1 m before after silent said was_bad → PrintsDrive texts (subcommand_rows_of top) before after silent said was_bad
prints_drive texts top m n1 before after silent said was_bad e is drives = record {
  n1 = n1;
  given = number_in top m (codes "n1") 31 n1 e is;
  rules = drives.rules;
  named =
      subst (λ (t : Option Text × Option Text). IsDriveDialect texts t.0 (is_set t.1) drives.rules)
      (λ i. (word_given top m (codes "dialect") e i, word_given top m (codes "arm") e i)) drives.named;
  tick = drives.tick;
  ticks = number_in top m (codes "tick") 100 drives.tick e drives.ticks;
  drove =
      subst
      (λ (t : Option Text × Option Text × Option (List Text) × Option Text × Option (List Text)). RanGiven t.2 t.4 (is_set t.3) (is_some t.0) drives.rules (entry_for t.1 n1) n1 (millis drives.tick) before after silent said was_bad)
      (λ i. (word_given top m (codes "capture") e i, word_given top m (codes "entry") e i, words_given top m (codes "data") e i, word_given top m (codes "arm") e i, words_given top m (codes "text") e i))
      drives.drove;
}

pub returns-in-drive-clause-drive : goal.returns-in-drive-clause-drive
returns-in-drive-clause-drive g c zero named =
    prints_drive (g.R.TextFiles.text_of c.args.rt.now) c.args.matches.now c.in-Some.given.now c.in-Ok.numbers.n1 _ _ _ _ _ c.in-Some.ensures.rows c.in-Ok.ensures.n1 (c.drive_words.ensures.done zero)

pub returns-in-drive-clause-drive_bad : goal.returns-in-drive-clause-drive_bad
returns-in-drive-clause-drive_bad g c two named =
    ⊎_elim (λ same. inl same) (λ drove. inr (prints_drive (g.R.TextFiles.text_of c.args.rt.now) c.args.matches.now c.in-Some.given.now c.in-Ok.numbers.n1 _ _ _ _ _ c.in-Some.ensures.rows c.in-Ok.ensures.n1 drove)) (c.drive_words.ensures.bad two)

-- whether the reason is wanted, by the words
same_wish : (top m : ArgMatches) (terminal : Bool) → Some (rows_of (found_of m)) ≡ option_map (λ p. p.1) (subcommand_rows_of top)
    → (terminal || is_set (first_value (found_of m) (codes "explain"))) ≡ is_explained terminal (subcommand_rows_of top)
same_wish top m terminal rows = ap (λ (t : Option Text). terminal || is_set t) (word_given top m (codes "explain") rows)

pub returns-in-frames-clause-nothing : goal.returns-in-frames-clause-nothing
returns-in-frames-clause-nothing g c one no_sim no_drive no_replay no_show =
    subst (λ (e : Bool). HasGivenUp e c.args.output.now c.frames_run_explained.new.output (g.E.Write.contents c.args.faults.now) (g.E.Write.contents c.frames_run_explained.new.faults) c.frames_run_explained.result)
    (c.wants_reason-explained.ensures ∙ same_wish c.args.matches.now c.in-Some.given.now c.args.terminal c.in-Some.ensures.rows)
    (c.frames_run_explained.ensures.nothing one)

pub returns-in-bench-clause-nothing : goal.returns-in-bench-clause-nothing
returns-in-bench-clause-nothing g c one no_sim no_drive no_replay no_show =
    subst (λ (e : Bool). HasGivenUp e c.args.output.now c.bench_plain.new.output (g.E.Write.contents c.args.faults.now) (g.E.Write.contents c.bench_plain.new.faults) c.bench_plain.result)
    (c.wants_reason-explained.ensures ∙ same_wish c.args.matches.now c.in-Some.given.now c.args.terminal c.in-Some.ensures.rows)
    (c.bench_plain.ensures.nothing one)

names : {O : Type 0} (explained : Bool) (top m : ArgMatches) (old new : O) (before after : Option (List ℕ)) (status : ℕ) → Some (rows_of (found_of m)) ≡ option_map (λ p. p.1) (subcommand_rows_of top)
    → NamesCause explained (first_value (found_of m) (codes "dialect")) old new before after status → NamesCause explained (raw_in (subcommand_rows_of top) (codes "dialect")) old new before after status
names explained top m old new before after status rows said = subst (λ (t : Option Text). NamesCause explained t old new before after status) (word_given top m (codes "dialect") rows) said

shut : (top m : ArgMatches) (is : Text → Bool) → Some (rows_of (found_of m)) ≡ option_map (λ p. p.1) (subcommand_rows_of top) → IsShut is (raw_in (subcommand_rows_of top) (codes "dialect")) → IsShut is (first_value (found_of m) (codes "dialect"))
shut top m is rows h = subst (IsShut is) (sym (word_given top m (codes "dialect") rows)) h

pub returns-in-replay-clause-unreplayed : goal.returns-in-replay-clause-unreplayed
returns-in-replay-clause-unreplayed g c one named =
    subst (λ (e : Bool). NamesCause e (raw_in (subcommand_rows_of c.args.matches.now) (codes "dialect")) c.args.output.now c.replay_words.new.output (g.E.Write.contents c.args.faults.now) (g.E.Write.contents c.replay_words.new.faults) c.replay_words.result)
    (c.wants_reason-explained.ensures ∙ same_wish c.args.matches.now c.in-Some.given.now c.args.terminal c.in-Some.ensures.rows)
    (names c.wants_reason-explained.result c.args.matches.now c.in-Some.given.now _ _ _ _ _ c.in-Some.ensures.rows (c.replay_words.ensures.nothing one))

pub returns-in-replay-clause-replay_shut : goal.returns-in-replay-clause-replay_shut
returns-in-replay-clause-replay_shut g c named is =
    let one = c.replay_words.ensures.shut (shut c.args.matches.now c.in-Some.given.now (g.R.TextFiles.is_shut c.args.rt.now) c.in-Some.ensures.rows is) in
    omega (arith, one)

pub returns-in-drive-clause-undriven : goal.returns-in-drive-clause-undriven
returns-in-drive-clause-undriven g c one named is =
    names true c.args.matches.now c.in-Some.given.now _ _ _ _ _ c.in-Some.ensures.rows
    (c.drive_words.ensures.unread (shut c.args.matches.now c.in-Some.given.now (g.R.TextFiles.is_shut c.args.rt.now) c.in-Some.ensures.rows is) one)

pub returns-in-drive-clause-drive_shut : goal.returns-in-drive-clause-drive_shut
returns-in-drive-clause-drive_shut g c named is =
    c.drive_words.ensures.shut (shut c.args.matches.now c.in-Some.given.now (g.R.TextFiles.is_shut c.args.rt.now) c.in-Some.ensures.rows is)

-- ## A capture that is shown

are_wanted : (texts : Text → Option (List ℕ)) (top m : ArgMatches) (n1 : ℕ) (options : ShowOptions) → Some (rows_of (found_of m)) ≡ option_map (λ p. p.1) (subcommand_rows_of top) → IsNumberOf 31 (one_text (found_of m) (codes "n1")) n1
    → AreWantedBy texts n1 m options → AreWanted texts (subcommand_rows_of top) options
are_wanted texts top m n1 options rows number by = record {
  n1_given = number_in top m (codes "n1") 31 options.n1 rows (subst (λ (n : ℕ). IsNumberOf 31 (one_text (found_of m) (codes "n1")) n) (sym by.n1_is) number);
  named = subst (λ (t : Option Text). IsGivenDialect texts t options.dialect) (word_given top m (codes "dialect") rows) by.named;
  data_given = subst (λ (t : Option (List Text)). AreChannels t options.data_channels.items) (words_given top m (codes "data") rows) by.data_given;
  strict_given = subst (λ (t : Option Text). IsFlag t options.strict) (given_in top m (codes "strict") rows) by.strict_given;
}

prints_show : (texts : Text → Option (List ℕ)) (top m : ArgMatches) (n1 : ℕ) (before after : Option (List ℕ)) (status : ℕ) → Some (rows_of (found_of m)) ≡ option_map (λ p. p.1) (subcommand_rows_of top) → IsNumberOf 31 (one_text (found_of m) (codes "n1")) n1
    → ShowsWith texts n1 m before after status → PrintsShow texts (subcommand_rows_of top) before after status
prints_show texts top m n1 before after status rows number shows = record {
  options = shows.options;
  wanted = are_wanted texts top m n1 shows.options rows number shows.wanted;
  path = shows.path;
  path_is = sym (word_given top m (codes "file") rows) ∙ shows.path_is;
  shown = subst (λ (t : Option Text). ShowsFiles texts shows.options t shows.path before after status) (word_given top m (codes "raw") rows) shows.shown;
}

pub returns-in-show-clause-show : goal.returns-in-show-clause-show
returns-in-show-clause-show g c good named =
    prints_show (g.R.TextFiles.text_of c.args.rt.now) c.args.matches.now c.in-Some.given.now c.in-Ok.numbers.n1 _ _ _ c.in-Some.ensures.rows c.in-Ok.ensures.n1 (c.show_words.ensures.shown good)

unshown : (top m : ArgMatches) (before after : Option (List ℕ)) (status : ℕ) → Some (rows_of (found_of m)) ≡ option_map (λ p. p.1) (subcommand_rows_of top)
    → SaysUnshown (first_value (found_of m) (codes "dialect")) (first_value (found_of m) (codes "raw")) (first_value (found_of m) (codes "file")) before after status
    → SaysUnshown (raw_in (subcommand_rows_of top) (codes "dialect")) (raw_in (subcommand_rows_of top) (codes "raw")) (raw_in (subcommand_rows_of top) (codes "file")) before after status
unshown top m before after status rows said =
    subst (λ (t : Option Text × Option Text × Option Text). SaysUnshown t.0 t.1 t.2 before after status)
    (λ i. (word_given top m (codes "dialect") rows i, word_given top m (codes "raw") rows i, word_given top m (codes "file") rows i)) said

pub returns-in-show-clause-unshown : goal.returns-in-show-clause-unshown
returns-in-show-clause-unshown g c one named =
    unshown c.args.matches.now c.in-Some.given.now _ _ _ c.in-Some.ensures.rows (c.show_words.ensures.said one)

shut_word : (top m : ArgMatches) (is : Text → Bool) (option : Text) → Some (rows_of (found_of m)) ≡ option_map (λ p. p.1) (subcommand_rows_of top) → IsShutFile is (raw_in (subcommand_rows_of top) option) → IsShutFile is (first_value (found_of m) option)
shut_word top m is option rows h = subst (IsShutFile is) (sym (word_given top m option rows)) h

pub returns-in-show-clause-show_shut : goal.returns-in-show-clause-show_shut
returns-in-show-clause-show_shut g c named is =
    c.show_words.ensures.shut
    (⊎_elim (λ dialect. inl (shut c.args.matches.now c.in-Some.given.now (g.R.TextFiles.is_shut c.args.rt.now) c.in-Some.ensures.rows dialect))
    (λ files. inr (⊎_elim (λ file. inl (shut_word c.args.matches.now c.in-Some.given.now (g.R.TextFiles.is_shut c.args.rt.now) (codes "file") c.in-Some.ensures.rows file))
    (λ raw. inr (shut_word c.args.matches.now c.in-Some.given.now (g.R.TextFiles.is_shut c.args.rt.now) (codes "raw") c.in-Some.ensures.rows raw)) files)) is)

shows_read : (texts : Text → Option (List ℕ)) (top m : ArgMatches) (before : Option (List ℕ)) (p : ProgressState) (status : ℕ) → Some (rows_of (found_of m)) ≡ option_map (λ p. p.1) (subcommand_rows_of top)
    → TellsShow texts (first_value (found_of m) (codes "raw")) (first_value (found_of m) (codes "file")) before p status
    → TellsShow texts (raw_in (subcommand_rows_of top) (codes "raw")) (raw_in (subcommand_rows_of top) (codes "file")) before p status
shows_read texts top m before p status rows tells =
    subst (λ (t : Option Text × Option Text). TellsShow texts t.0 t.1 before p status)
    (λ i. (word_given top m (codes "raw") rows i, word_given top m (codes "file") rows i)) tells

pub returns-in-show-clause-show_read : goal.returns-in-show-clause-show_read
returns-in-show-clause-show_read g c named =
    shows_read (g.R.TextFiles.text_of c.args.rt.now) c.args.matches.now c.in-Some.given.now _ _ _ c.in-Some.ensures.rows c.show_words.ensures.read

pub returns-in-Err-clause-show_read : goal.returns-in-Err-clause-show_read
returns-in-Err-clause-show_read g c named =
    let two = c.refuse.ensures.status in
    not_shown _ _ _ _ c.args.progress.now _ refl (omega (arith, two)) (omega (arith, two))

-- ## Status 2

pub returns-in-frames-clause-frames_bad : goal.returns-in-frames-clause-frames_bad
returns-in-frames-clause-frames_bad g c two named = inr (record {
  n1 = c.in-Ok.numbers.n1;
  given = number_in c.args.matches.now c.in-Some.given.now (codes "n1") 31 c.in-Ok.numbers.n1 c.in-Some.ensures.rows c.in-Ok.ensures.n1;
  stops =
      subst (λ (e : Bool). StopsBadly e (IsRunStop c.in-Ok.numbers.n1 IsNoDump DumpFault (g.I.Read.remaining c.args.input.now)) (g.E.Write.contents c.args.faults.now) (g.E.Write.contents c.frames_run_explained.new.faults)) (c.wants_reason-explained.ensures ∙ same_wish c.args.matches.now c.in-Some.given.now c.args.terminal c.in-Some.ensures.rows)
      (stops_two _ _ _ _ _ _ _ _ _ _ c.frames_run_explained.ensures.stopped two);
})

pub returns-in-replay-clause-replay_bad : goal.returns-in-replay-clause-replay_bad
returns-in-replay-clause-replay_bad g c two named =
    inr (⊎_elim
    (λ text. inl (subst (λ (x : Bool × Option Text). IsNoText x.0 (codes "dialect") x.1 (g.E.Write.contents c.args.faults.now) (g.E.Write.contents c.replay_words.new.faults) 2)
    (λ i. ((c.wants_reason-explained.ensures ∙ same_wish c.args.matches.now c.in-Some.given.now c.args.terminal c.in-Some.ensures.rows) i, word_given c.args.matches.now c.in-Some.given.now (codes "dialect") c.in-Some.ensures.rows i)) text))
    (λ stops. inr (record {
      n1 = c.in-Ok.numbers.n1;
      given = number_in c.args.matches.now c.in-Some.given.now (codes "n1") 31 c.in-Ok.numbers.n1 c.in-Some.ensures.rows c.in-Ok.ensures.n1;
      stops = subst (λ (e : Bool). StopsBadly e (IsRunStop c.in-Ok.numbers.n1 IsNoOrder EventFault (g.I.Read.remaining c.args.input.now)) (g.E.Write.contents c.args.faults.now) (g.E.Write.contents c.replay_words.new.faults)) (c.wants_reason-explained.ensures ∙ same_wish c.args.matches.now c.in-Some.given.now c.args.terminal c.in-Some.ensures.rows) stops;
    }))
    (c.replay_words.ensures.refused two))

pub returns-in-bench-clause-bench_bad : goal.returns-in-bench-clause-bench_bad
returns-in-bench-clause-bench_bad g c two named = inr (record {
  callers = c.in-Ok.numbers.callers;
  callers_given = number_in c.args.matches.now c.in-Some.given.now (codes "callers") 2 c.in-Ok.numbers.callers c.in-Some.ensures.rows c.in-Ok.ensures.callers;
  cut = c.in-Ok.numbers.cut;
  cut_given = number_in c.args.matches.now c.in-Some.given.now (codes "cut") 64 c.in-Ok.numbers.cut c.in-Some.ensures.rows c.in-Ok.ensures.cut;
  stops = subst (λ (e : Bool). StopsBadly e (IsBenchStop c.in-Ok.numbers.callers c.in-Ok.numbers.cut (g.I.Read.remaining c.args.input.now)) (g.E.Write.contents c.args.faults.now) (g.E.Write.contents c.bench_plain.new.faults)) (c.wants_reason-explained.ensures ∙ same_wish c.args.matches.now c.in-Some.given.now c.args.terminal c.in-Some.ensures.rows) (c.bench_plain.ensures.refused two);
})

refuses_show : (top m : ArgMatches) (before after : Option (List ℕ)) → Some (rows_of (found_of m)) ≡ option_map (λ p. p.1) (subcommand_rows_of top)
    → RefusesShow (first_value (found_of m) (codes "dialect")) (first_value (found_of m) (codes "raw")) (first_value (found_of m) (codes "file")) before after
    → RefusesShow (raw_in (subcommand_rows_of top) (codes "dialect")) (raw_in (subcommand_rows_of top) (codes "raw")) (raw_in (subcommand_rows_of top) (codes "file")) before after
refuses_show top m before after rows said =
    subst (λ (t : Option Text × Option Text × Option Text). RefusesShow t.0 t.1 t.2 before after)
    (λ i. (word_given top m (codes "dialect") rows i, word_given top m (codes "raw") rows i, word_given top m (codes "file") rows i)) said

pub returns-in-show-clause-show_bad : goal.returns-in-show-clause-show_bad
returns-in-show-clause-show_bad g c two named = refuses_show c.args.matches.now c.in-Some.given.now _ _ c.in-Some.ensures.rows (c.show_words.ensures.refused two)

says_undriven : (top m : ArgMatches) (before after : Option (List ℕ)) → Some (rows_of (found_of m)) ≡ option_map (λ p. p.1) (subcommand_rows_of top)
    → SaysUndriven (first_value (found_of m) (codes "dialect")) (first_value (found_of m) (codes "device")) (first_value (found_of m) (codes "capture")) (first_value (found_of m) (codes "arm")) (given_for m (codes "data")) (given_for m (codes "text")) before after
    → SaysUndriven (raw_in (subcommand_rows_of top) (codes "dialect")) (raw_in (subcommand_rows_of top) (codes "device")) (raw_in (subcommand_rows_of top) (codes "capture")) (raw_in (subcommand_rows_of top) (codes "arm")) (all_in (subcommand_rows_of top) (codes "data")) (all_in (subcommand_rows_of top) (codes "text")) before after
says_undriven top m before after rows said =
    subst (λ (t : Option Text × Option Text × Option Text × Option Text × Option (List Text) × Option (List Text)). SaysUndriven t.0 t.1 t.2 t.3 t.4 t.5 before after)
    (λ i. (word_given top m (codes "dialect") rows i, word_given top m (codes "device") rows i, word_given top m (codes "capture") rows i, word_given top m (codes "arm") rows i, words_given top m (codes "data") rows i, words_given top m (codes "text") rows i)) said

pub returns-in-drive-clause-drive_fault : goal.returns-in-drive-clause-drive_fault
returns-in-drive-clause-drive_fault g c one named = says_undriven c.args.matches.now c.in-Some.given.now _ _ c.in-Some.ensures.rows (c.drive_words.ensures.fault one)

pub returns-in-Err-clause-frames_bad : goal.returns-in-Err-clause-frames_bad
returns-in-Err-clause-frames_bad g c two named = inl (record { option = _; said = c.refuse.ensures.said })

pub returns-in-Err-clause-replay_bad : goal.returns-in-Err-clause-replay_bad
returns-in-Err-clause-replay_bad g c two named = inl (record { option = _; said = c.refuse.ensures.said })

pub returns-in-Err-clause-bench_bad : goal.returns-in-Err-clause-bench_bad
returns-in-Err-clause-bench_bad g c two named = inl (record { option = _; said = c.refuse.ensures.said })

pub returns-in-Err-clause-show_bad : goal.returns-in-Err-clause-show_bad
returns-in-Err-clause-show_bad g c two named = inr (inl (record { option = _; said = c.refuse.ensures.said }))

pub returns-in-Err-clause-drive_fault : goal.returns-in-Err-clause-drive_fault
returns-in-Err-clause-drive_fault g c one named = let two = c.refuse.ensures.status in absurd (omega (arith, one, two))
