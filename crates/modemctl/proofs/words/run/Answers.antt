use Rattle.std.proofs.Common.{◌≡◌, ◌≢◌, ◌∙◌, ◌<◌, ◌⊎◌, ℕ, Bool, ⊎_elim, inl, inr, ap, arith, refl, subst, sym, true, List, [], Option, None, Some, option_map, codes, false}
use Rattle.std.proofs.lemmas.Bool.{false_from_ne_true}
use Rattle.clap.specs.Words.{App, HasKind, IsAmong, Kinds, Row, Text, fault_of, is_simple, is_simple_and_free, subcommand_of, subcommand_name_of, subcommand_rows_of}
use Rattle.clap.specs.declared.ArgMatches.{ArgMatches}
use Rattle.clap.specs.declared.error.ErrorKind.{ErrorKind}
use Rattle.clap.specs.declared.error.ErrorKind.TheVariants.{DisplayHelp, DisplayVersion, OutOfMemory}
use Rattle.clap.proofs.OnLiterals.{clap_on_literals}
use Rattle.modemctl.specs.Words.{AsksNoHelp, HasNoNumber, is_explained, program_app, fault_in, met_in, named_in, raw_in}
use Rattle.ctl_run.specs.declared.stop.Stop.TheVariants as Stop
use Rattle.ctl_run.proofs.outputs.SaidLines.{begun_line}
use Rattle.ctl_run.proofs.outputs.StoppedRuns.{gave_up}
use Rattle.ctl_run.specs.Stopping.{HasGivenUp}
use Rattle.modemctl.specs.Benches.{PrintsBench, PrintsFrames, PrintsReplay}
use Rattle.modemctl.specs.Dialects.{IsShut}
use Rattle.modemctl.specs.Drives.{PrintsDrive}
use Rattle.modemctl.specs.Files.{NamesCause}
use Rattle.modemctl.specs.Refusals.{RefusesBench, RefusesFrames, RefusesReplay, RefusesShow, SaysUndriven}
use Rattle.modemctl.specs.Sims.{IsNotBegun, LeavesClient, RefusesClient, ServesClient, files_given}
use Rattle.modemctl.specs.SimData.{LeavesData, SaysNoPaths, ServesData, names_files}
use Rattle.modemctl.specs.Shows.{IsShutFile, PrintsShow, SaysUnshown, TellsShow, all_in}
use Rattle.modemctl.proofs.Refused.{gave_up_one, memory_one}
use Rattle.modemctl.proofs.ShownFiles.{not_shown}
use Rattle.modemctl.proofs.words.run.Goals as goal

simple : is_simple program_app ≡ true
unfolding clap_on_literals
simple = refl

twice : {A B C : Type 0} (f : A → B) (g : B → C) (o : Option A) → option_map (λ a. g (f a)) o ≡ option_map g (option_map f o)
twice f g None = refl
twice f g (Some a) = refl

-- the subcommand that was met, with its options, is the one that the words name
met : (m : ArgMatches) (a : App) (words : List Text) → a ≡ program_app → (is_simple a ≡ true → subcommand_rows_of m ≡ subcommand_of a words) → subcommand_rows_of m ≡ met_in words
met m a words same h = h (ap is_simple same ∙ simple) ∙ ap (λ (b : App). subcommand_of b words) same

named : (m : ArgMatches) (a : App) (words : List Text) → a ≡ program_app → (is_simple a ≡ true → subcommand_rows_of m ≡ subcommand_of a words) → subcommand_name_of m ≡ named_in words
named m a words same h =
    let name_is : subcommand_name_of m ≡ option_map (λ p. p.0) (subcommand_rows_of m) = twice _ (λ p. p.0) _ in
    name_is ∙ ap (option_map (λ p. p.0)) (met m a words same h)

pub returns-in-Ok-try_get_matches_from-clause-frames :
    goal.returns-in-Ok-try_get_matches_from-clause-frames
returns-in-Ok-try_get_matches_from-clause-frames g c zero for =
    subst (λ (m : Option (Text × List Row)). PrintsFrames m (g.I.Read.remaining c.args.input.now) (g.W.Write.contents c.args.output.now) (g.W.Write.contents c.run_named.new.output)) (met c.in-Ok-try_get_matches_from.matches _ _ c.in-Ok.ensures (λ e. (c.in-Ok-try_get_matches_from.ensures.matches e).1))
    (c.run_named.ensures.frames zero (named c.in-Ok-try_get_matches_from.matches _ _ c.in-Ok.ensures (λ e. (c.in-Ok-try_get_matches_from.ensures.matches e).1) ∙ for.1))

pub returns-in-Ok-try_get_matches_from-clause-replay :
    goal.returns-in-Ok-try_get_matches_from-clause-replay
returns-in-Ok-try_get_matches_from-clause-replay g c zero for =
    subst (λ (m : Option (Text × List Row)). PrintsReplay (g.R.TextFiles.text_of c.args.rt.now) m (g.I.Read.remaining c.args.input.now) (g.W.Write.contents c.args.output.now) (g.W.Write.contents c.run_named.new.output)) (met c.in-Ok-try_get_matches_from.matches _ _ c.in-Ok.ensures (λ e. (c.in-Ok-try_get_matches_from.ensures.matches e).1))
    (c.run_named.ensures.replay zero (named c.in-Ok-try_get_matches_from.matches _ _ c.in-Ok.ensures (λ e. (c.in-Ok-try_get_matches_from.ensures.matches e).1) ∙ for.1))

pub returns-in-Ok-try_get_matches_from-clause-bench :
    goal.returns-in-Ok-try_get_matches_from-clause-bench
returns-in-Ok-try_get_matches_from-clause-bench g c zero for =
    subst (λ (m : Option (Text × List Row)). PrintsBench m (g.I.Read.remaining c.args.input.now) (g.W.Write.contents c.args.output.now) (g.W.Write.contents c.run_named.new.output)) (met c.in-Ok-try_get_matches_from.matches _ _ c.in-Ok.ensures (λ e. (c.in-Ok-try_get_matches_from.ensures.matches e).1))
    (c.run_named.ensures.bench zero (named c.in-Ok-try_get_matches_from.matches _ _ c.in-Ok.ensures (λ e. (c.in-Ok-try_get_matches_from.ensures.matches e).1) ∙ for.1))

pub returns-in-Ok-try_get_matches_from-clause-sim :
    goal.returns-in-Ok-try_get_matches_from-clause-sim
returns-in-Ok-try_get_matches_from-clause-sim g c zero for =
    subst (λ (m : Option (Text × List Row)). ServesClient (g.R.TextFiles.text_of c.args.rt.now) m (g.I.Read.remaining c.args.input.now) (g.W.Write.contents c.args.output.now) (g.W.Write.contents c.run_named.new.output)) (met c.in-Ok-try_get_matches_from.matches _ _ c.in-Ok.ensures (λ e. (c.in-Ok-try_get_matches_from.ensures.matches e).1))
    (c.run_named.ensures.sim zero (named c.in-Ok-try_get_matches_from.matches _ _ c.in-Ok.ensures (λ e. (c.in-Ok-try_get_matches_from.ensures.matches e).1) ∙ for.0.1) (ap names_files (met c.in-Ok-try_get_matches_from.matches _ _ c.in-Ok.ensures (λ e. (c.in-Ok-try_get_matches_from.ensures.matches e).1)) ∙ for.1))

leaves : {I O : Type 0} (texts : Text → Option (List ℕ)) (a b : Option (Text × List Row)) (input rest before after told_before told_after : Option (List ℕ)) (was is : I) (old new : O) → a ≡ b
    → IsNotBegun (files_given a) was is old new told_before told_after ⊎ LeavesClient texts a input rest before after told_before told_after
    → IsNotBegun (files_given b) was is old new told_before told_after ⊎ LeavesClient texts b input rest before after told_before told_after
leaves texts a b input rest before after told_before told_after was is old new same h =
    subst
    (λ (m : Option (Text × List Row)). IsNotBegun (files_given m) was is old new told_before told_after ⊎ LeavesClient texts m input rest before after told_before told_after)
    same h

pub returns-in-Ok-try_get_matches_from-clause-sim_left :
    goal.returns-in-Ok-try_get_matches_from-clause-sim_left
returns-in-Ok-try_get_matches_from-clause-sim_left g c one for =
    leaves _ _ _ _ _ _ _ _ _ _ _ _ _ (met c.in-Ok-try_get_matches_from.matches _ _ c.in-Ok.ensures (λ e. (c.in-Ok-try_get_matches_from.ensures.matches e).1))
    (c.run_named.ensures.sim_left one (named c.in-Ok-try_get_matches_from.matches _ _ c.in-Ok.ensures (λ e. (c.in-Ok-try_get_matches_from.ensures.matches e).1) ∙ for.0.1) (ap names_files (met c.in-Ok-try_get_matches_from.matches _ _ c.in-Ok.ensures (λ e. (c.in-Ok-try_get_matches_from.ensures.matches e).1)) ∙ for.1))

pub returns-in-Ok-try_get_matches_from-clause-sim_bad :
    goal.returns-in-Ok-try_get_matches_from-clause-sim_bad
returns-in-Ok-try_get_matches_from-clause-sim_bad g c two for =
    subst (λ (m : Option (Text × List Row)). RefusesClient (g.R.TextFiles.text_of c.args.rt.now) m (g.E.Write.contents c.args.faults.now) (g.E.Write.contents c.run_named.new.faults)) (met c.in-Ok-try_get_matches_from.matches _ _ c.in-Ok.ensures (λ e. (c.in-Ok-try_get_matches_from.ensures.matches e).1))
    (c.run_named.ensures.sim_bad two (named c.in-Ok-try_get_matches_from.matches _ _ c.in-Ok.ensures (λ e. (c.in-Ok-try_get_matches_from.ensures.matches e).1) ∙ for.0.1) (ap names_files (met c.in-Ok-try_get_matches_from.matches _ _ c.in-Ok.ensures (λ e. (c.in-Ok-try_get_matches_from.ensures.matches e).1)) ∙ for.1))

pub returns-in-Err-try_get_matches_from-clause-silent :
    goal.returns-in-Err-try_get_matches_from-clause-silent
returns-in-Err-try_get_matches_from-clause-silent g c zero no_drive no_files = c.explain.ensures.quiet zero

pub returns-in-Ok-try_get_matches_from-clause-drive :
    goal.returns-in-Ok-try_get_matches_from-clause-drive
returns-in-Ok-try_get_matches_from-clause-drive g c zero for =
    subst (λ (m : Option (Text × List Row)). PrintsDrive (g.R.TextFiles.text_of c.args.rt.now) m (g.W.Write.contents c.args.output.now) (g.W.Write.contents c.run_named.new.output) (g.E.Write.contents c.args.faults.now) (g.E.Write.contents c.run_named.new.faults) false) (met c.in-Ok-try_get_matches_from.matches _ _ c.in-Ok.ensures (λ e. (c.in-Ok-try_get_matches_from.ensures.matches e).1))
    (c.run_named.ensures.drive zero (named c.in-Ok-try_get_matches_from.matches _ _ c.in-Ok.ensures (λ e. (c.in-Ok-try_get_matches_from.ensures.matches e).1) ∙ for.1))

pub returns-in-Ok-try_get_matches_from-clause-drive_bad :
    goal.returns-in-Ok-try_get_matches_from-clause-drive_bad
returns-in-Ok-try_get_matches_from-clause-drive_bad g c two for =
    ⊎_elim (λ same. inl same)
    (λ prints. inr (subst (λ (m : Option (Text × List Row)). PrintsDrive (g.R.TextFiles.text_of c.args.rt.now) m (g.W.Write.contents c.args.output.now) (g.W.Write.contents c.run_named.new.output) (g.E.Write.contents c.args.faults.now) (g.E.Write.contents c.run_named.new.faults) true) (met c.in-Ok-try_get_matches_from.matches _ _ c.in-Ok.ensures (λ e. (c.in-Ok-try_get_matches_from.ensures.matches e).1)) prints))
    (c.run_named.ensures.drive_bad two (named c.in-Ok-try_get_matches_from.matches _ _ c.in-Ok.ensures (λ e. (c.in-Ok-try_get_matches_from.ensures.matches e).1) ∙ for.1))

-- ## What is wrong with the words

free : is_simple_and_free program_app ≡ true
unfolding clap_on_literals
free = refl

-- what holds of what is wrong with the words for the program
at_program : (P : Kinds → Type 0) (a : App) (words : List Text) → a ≡ program_app → (is_simple_and_free a ≡ true → P (fault_of a words)) → P (fault_in words)
at_program P a words same h = subst (λ (b : App). P (fault_of b words)) same (h (ap is_simple_and_free same ∙ free))

-- an error that is a wish for neither help nor the version
is_wrong : (k : ErrorKind) (kinds : Kinds) (status : ℕ) → (k ≡ OutOfMemory) ⊎ IsAmong k kinds → (k ≡ OutOfMemory → status ≡ 1) → (k ≢ DisplayHelp → k ≢ DisplayVersion → 0 < status) → AsksNoHelp kinds → 0 < status
is_wrong k kinds status has memory wrong none =
    ⊎_elim (λ (m : k ≡ OutOfMemory). let e = memory m in omega (arith, e))
    (λ (a : IsAmong k kinds). wrong (λ e. none.0 (subst (λ (l : ErrorKind). IsAmong l kinds) e a)) (λ e. none.1 (subst (λ (l : ErrorKind). IsAmong l kinds) e a)))
    has

-- where nothing is wrong, memory was refused
is_memory : (k : ErrorKind) (kinds : Kinds) (status : ℕ) → (k ≡ OutOfMemory) ⊎ IsAmong k kinds → (k ≡ OutOfMemory → status ≡ 1) → status ≡ 0 → kinds ≡ [] → ⊥
is_memory k kinds status has memory zero none =
    ⊎_elim (λ (m : k ≡ OutOfMemory). let e = memory m in omega (arith, e, zero))
    (λ (a : IsAmong k kinds). subst (IsAmong k) none a)
    has

-- the error is that of memory
by_memory : (k : ErrorKind) (kinds : Kinds) → (k ≡ OutOfMemory) ⊎ IsAmong k kinds → kinds ≡ [] → k ≡ OutOfMemory
by_memory k kinds has none = ⊎_elim (λ (m : k ≡ OutOfMemory). m) (λ (a : IsAmong k kinds). absurd (subst (IsAmong k) none a)) has

-- without files where these would refute something
without_files : (a b : Option (Text × List Row)) → a ≡ b → (names_files b ≡ true → ⊥) → names_files a ≡ false
without_files a b same no_files = false_from_ne_true (names_files a) (λ names. no_files (sym (ap names_files same) ∙ names))

pub returns-in-Ok-try_get_matches_from-clause-silent :
    goal.returns-in-Ok-try_get_matches_from-clause-silent
returns-in-Ok-try_get_matches_from-clause-silent g c zero no_drive no_files =
    let right = at_program (λ kinds. kinds ≡ []) _ _ c.in-Ok.ensures c.in-Ok-try_get_matches_from.ensures.kinds in
    let name = sym (named c.in-Ok-try_get_matches_from.matches _ _ c.in-Ok.ensures (λ e. (c.in-Ok-try_get_matches_from.ensures.matches e).1)) in
    c.run_named.ensures.silent zero (λ is. no_drive (right, name ∙ is)) (λ is. without_files _ _ (met c.in-Ok-try_get_matches_from.matches _ _ c.in-Ok.ensures (λ e. (c.in-Ok-try_get_matches_from.ensures.matches e).1)) (λ names. no_files ((right, name ∙ is), names)))

pub returns-in-Err-try_get_matches_from-clause-sim_left :
    goal.returns-in-Err-try_get_matches_from-clause-sim_left
returns-in-Err-try_get_matches_from-clause-sim_left g c one for =
    let memory = by_memory _ _ (at_program (λ kinds. HasKind kinds c.in-Err-try_get_matches_from.error) _ _ c.in-Ok.ensures c.in-Err-try_get_matches_from.ensures.kinds) for.0.0 in
    inl (record { unread = refl; nothing = c.explain.ensures.silent memory; said = inl (c.explain.ensures.cause memory) })

pub returns-in-Err-clause-sim_left : goal.returns-in-Err-clause-sim_left
returns-in-Err-clause-sim_left g c one for = inl (record { unread = refl; nothing = refl; said = inl c.give_up.ensures.said })

pub returns-in-Ok-try_get_matches_from-clause-sim_data :
    goal.returns-in-Ok-try_get_matches_from-clause-sim_data
returns-in-Ok-try_get_matches_from-clause-sim_data g c zero for =
    subst (λ (m : Option (Text × List Row)). ServesData (all_in m (codes "data")) (g.E.Write.contents c.args.faults.now) (g.E.Write.contents c.run_named.new.faults)) (met c.in-Ok-try_get_matches_from.matches _ _ c.in-Ok.ensures (λ e. (c.in-Ok-try_get_matches_from.ensures.matches e).1))
    (c.run_named.ensures.sim_data zero (named c.in-Ok-try_get_matches_from.matches _ _ c.in-Ok.ensures (λ e. (c.in-Ok-try_get_matches_from.ensures.matches e).1) ∙ for.0.1) (ap names_files (met c.in-Ok-try_get_matches_from.matches _ _ c.in-Ok.ensures (λ e. (c.in-Ok-try_get_matches_from.ensures.matches e).1)) ∙ for.1))

pub returns-in-Ok-try_get_matches_from-clause-sim_data_left :
    goal.returns-in-Ok-try_get_matches_from-clause-sim_data_left
returns-in-Ok-try_get_matches_from-clause-sim_data_left g c one for =
    subst (λ (m : Option (Text × List Row)). LeavesData (files_given m) (all_in m (codes "data")) c.args.output.now c.run_named.new.output (g.E.Write.contents c.args.faults.now) (g.E.Write.contents c.run_named.new.faults)) (met c.in-Ok-try_get_matches_from.matches _ _ c.in-Ok.ensures (λ e. (c.in-Ok-try_get_matches_from.ensures.matches e).1))
    (c.run_named.ensures.sim_data_left one (named c.in-Ok-try_get_matches_from.matches _ _ c.in-Ok.ensures (λ e. (c.in-Ok-try_get_matches_from.ensures.matches e).1) ∙ for.0.1) (ap names_files (met c.in-Ok-try_get_matches_from.matches _ _ c.in-Ok.ensures (λ e. (c.in-Ok-try_get_matches_from.ensures.matches e).1)) ∙ for.1))

pub returns-in-Ok-try_get_matches_from-clause-sim_data_bad :
    goal.returns-in-Ok-try_get_matches_from-clause-sim_data_bad
returns-in-Ok-try_get_matches_from-clause-sim_data_bad g c two for =
    subst (λ (m : Option (Text × List Row)). SaysNoPaths (g.E.Write.contents c.args.faults.now) (g.E.Write.contents c.run_named.new.faults) ⊎ RefusesClient (g.R.TextFiles.text_of c.args.rt.now) m (g.E.Write.contents c.args.faults.now) (g.E.Write.contents c.run_named.new.faults)) (met c.in-Ok-try_get_matches_from.matches _ _ c.in-Ok.ensures (λ e. (c.in-Ok-try_get_matches_from.ensures.matches e).1))
    (c.run_named.ensures.sim_data_bad two (named c.in-Ok-try_get_matches_from.matches _ _ c.in-Ok.ensures (λ e. (c.in-Ok-try_get_matches_from.ensures.matches e).1) ∙ for.0.1) (ap names_files (met c.in-Ok-try_get_matches_from.matches _ _ c.in-Ok.ensures (λ e. (c.in-Ok-try_get_matches_from.ensures.matches e).1)) ∙ for.1))

pub returns-in-Ok-try_get_matches_from-clause-sim_data_unread :
    goal.returns-in-Ok-try_get_matches_from-clause-sim_data_unread
returns-in-Ok-try_get_matches_from-clause-sim_data_unread g c for = c.run_named.ensures.sim_data_unread (named c.in-Ok-try_get_matches_from.matches _ _ c.in-Ok.ensures (λ e. (c.in-Ok-try_get_matches_from.ensures.matches e).1) ∙ for.0.1) (ap names_files (met c.in-Ok-try_get_matches_from.matches _ _ c.in-Ok.ensures (λ e. (c.in-Ok-try_get_matches_from.ensures.matches e).1)) ∙ for.1)

pub returns-in-Err-try_get_matches_from-clause-sim_data :
    goal.returns-in-Err-try_get_matches_from-clause-sim_data
returns-in-Err-try_get_matches_from-clause-sim_data g c zero for =
    absurd (is_memory _ _ _ (at_program (λ kinds. HasKind kinds c.in-Err-try_get_matches_from.error) _ _ c.in-Ok.ensures c.in-Err-try_get_matches_from.ensures.kinds) c.explain.ensures.memory zero for.0.0)

pub returns-in-Err-try_get_matches_from-clause-sim_data_left :
    goal.returns-in-Err-try_get_matches_from-clause-sim_data_left
returns-in-Err-try_get_matches_from-clause-sim_data_left g c one for =
    let memory = by_memory _ _ (at_program (λ kinds. HasKind kinds c.in-Err-try_get_matches_from.error) _ _ c.in-Ok.ensures c.in-Err-try_get_matches_from.ensures.kinds) for.0.0 in
    inl (c.explain.ensures.silent memory, inl (c.explain.ensures.cause memory))

pub returns-in-Err-try_get_matches_from-clause-sim_data_bad :
    goal.returns-in-Err-try_get_matches_from-clause-sim_data_bad
returns-in-Err-try_get_matches_from-clause-sim_data_bad g c two for =
    let one = c.explain.ensures.memory (by_memory _ _ (at_program (λ kinds. HasKind kinds c.in-Err-try_get_matches_from.error) _ _ c.in-Ok.ensures c.in-Err-try_get_matches_from.ensures.kinds) for.0.0) in
    absurd (omega (arith, one, two))

pub returns-in-Err-clause-sim_data_left : goal.returns-in-Err-clause-sim_data_left
returns-in-Err-clause-sim_data_left g c one for = inl (refl, inl c.give_up.ensures.said)

pub returns-in-Err-try_get_matches_from-clause-sim_bad :
    goal.returns-in-Err-try_get_matches_from-clause-sim_bad
returns-in-Err-try_get_matches_from-clause-sim_bad g c two for =
    let memory = by_memory _ _ (at_program (λ kinds. HasKind kinds c.in-Err-try_get_matches_from.error) _ _ c.in-Ok.ensures c.in-Err-try_get_matches_from.ensures.kinds) for.0.0 in
    let one = c.explain.ensures.memory memory in
    absurd (omega (arith, one, two))

pub returns-in-Ok-try_get_matches_from-clause-wrong :
    goal.returns-in-Ok-try_get_matches_from-clause-wrong
returns-in-Ok-try_get_matches_from-clause-wrong g c wrong none =
    absurd (wrong (at_program (λ kinds. kinds ≡ []) _ _ c.in-Ok.ensures c.in-Ok-try_get_matches_from.ensures.kinds))

pub returns-in-Ok-try_get_matches_from-clause-bad :
    goal.returns-in-Ok-try_get_matches_from-clause-bad
returns-in-Ok-try_get_matches_from-clause-bad g c two other =
    c.run_named.ensures.bad two (λ is. other (at_program (λ kinds. kinds ≡ []) _ _ c.in-Ok.ensures c.in-Ok-try_get_matches_from.ensures.kinds, sym (named c.in-Ok-try_get_matches_from.matches _ _ c.in-Ok.ensures (λ e. (c.in-Ok-try_get_matches_from.ensures.matches e).1)) ∙ is))

pub returns-in-Err-try_get_matches_from-clause-bad :
    goal.returns-in-Err-try_get_matches_from-clause-bad
returns-in-Err-try_get_matches_from-clause-bad g c two other = c.explain.ensures.bad two

pub returns-in-Err-try_get_matches_from-clause-sim :
    goal.returns-in-Err-try_get_matches_from-clause-sim
returns-in-Err-try_get_matches_from-clause-sim g c zero for =
    absurd (is_memory _ _ _ (at_program (λ kinds. HasKind kinds c.in-Err-try_get_matches_from.error) _ _ c.in-Ok.ensures c.in-Err-try_get_matches_from.ensures.kinds) c.explain.ensures.memory zero for.0.0)

pub returns-in-Err-try_get_matches_from-clause-drive :
    goal.returns-in-Err-try_get_matches_from-clause-drive
returns-in-Err-try_get_matches_from-clause-drive g c zero for =
    absurd (is_memory _ _ _ (at_program (λ kinds. HasKind kinds c.in-Err-try_get_matches_from.error) _ _ c.in-Ok.ensures c.in-Err-try_get_matches_from.ensures.kinds) c.explain.ensures.memory zero for.0)

pub returns-in-Err-try_get_matches_from-clause-drive_bad :
    goal.returns-in-Err-try_get_matches_from-clause-drive_bad
returns-in-Err-try_get_matches_from-clause-drive_bad g c two for = inl (c.explain.ensures.bad two)

pub returns-in-Ok-try_get_matches_from-clause-unread :
    goal.returns-in-Ok-try_get_matches_from-clause-unread
returns-in-Ok-try_get_matches_from-clause-unread g c wrong =
    absurd (wrong (at_program (λ kinds. kinds ≡ []) _ _ c.in-Ok.ensures c.in-Ok-try_get_matches_from.ensures.kinds))

pub returns-in-Err-try_get_matches_from-clause-wrong :
    goal.returns-in-Err-try_get_matches_from-clause-wrong
returns-in-Err-try_get_matches_from-clause-wrong g c wrong none =
    is_wrong _ _ _ (at_program (λ kinds. HasKind kinds c.in-Err-try_get_matches_from.error) _ _ c.in-Ok.ensures c.in-Err-try_get_matches_from.ensures.kinds) c.explain.ensures.memory c.explain.ensures.wrong none

pub returns-in-Err-try_get_matches_from-clause-frames :
    goal.returns-in-Err-try_get_matches_from-clause-frames
returns-in-Err-try_get_matches_from-clause-frames g c zero for =
    absurd (is_memory _ _ _ (at_program (λ kinds. HasKind kinds c.in-Err-try_get_matches_from.error) _ _ c.in-Ok.ensures c.in-Err-try_get_matches_from.ensures.kinds) c.explain.ensures.memory zero for.0)

pub returns-in-Err-try_get_matches_from-clause-replay :
    goal.returns-in-Err-try_get_matches_from-clause-replay
returns-in-Err-try_get_matches_from-clause-replay g c zero for =
    absurd (is_memory _ _ _ (at_program (λ kinds. HasKind kinds c.in-Err-try_get_matches_from.error) _ _ c.in-Ok.ensures c.in-Err-try_get_matches_from.ensures.kinds) c.explain.ensures.memory zero for.0)

pub returns-in-Err-try_get_matches_from-clause-bench :
    goal.returns-in-Err-try_get_matches_from-clause-bench
returns-in-Err-try_get_matches_from-clause-bench g c zero for =
    absurd (is_memory _ _ _ (at_program (λ kinds. HasKind kinds c.in-Err-try_get_matches_from.error) _ _ c.in-Ok.ensures c.in-Err-try_get_matches_from.ensures.kinds) c.explain.ensures.memory zero for.0)

pub returns-in-Ok-try_get_matches_from-clause-no_number :
    goal.returns-in-Ok-try_get_matches_from-clause-no_number
returns-in-Ok-try_get_matches_from-clause-no_number g c right none =
    c.run_named.ensures.unread (subst HasNoNumber (sym (met c.in-Ok-try_get_matches_from.matches _ _ c.in-Ok.ensures (λ e. (c.in-Ok-try_get_matches_from.ensures.matches e).1))) none)

pub returns-in-Ok-try_get_matches_from-clause-nothing :
    goal.returns-in-Ok-try_get_matches_from-clause-nothing
returns-in-Ok-try_get_matches_from-clause-nothing g c one no_sim no_drive no_replay no_show =
    let right = at_program (λ kinds. kinds ≡ []) _ _ c.in-Ok.ensures c.in-Ok-try_get_matches_from.ensures.kinds in
    let name = sym (named c.in-Ok-try_get_matches_from.matches _ _ c.in-Ok.ensures (λ e. (c.in-Ok-try_get_matches_from.ensures.matches e).1)) in
    subst (λ (m : Option (Text × List Row)). HasGivenUp (is_explained c.args.terminal m) c.args.output.now c.run_named.new.output (g.E.Write.contents c.args.faults.now) (g.E.Write.contents c.run_named.new.faults) c.run_named.result) (met c.in-Ok-try_get_matches_from.matches _ _ c.in-Ok.ensures (λ e. (c.in-Ok-try_get_matches_from.ensures.matches e).1))
    (c.run_named.ensures.nothing one (λ is. no_sim (right, name ∙ is)) (λ is. no_drive (right, name ∙ is)) (λ is. no_replay (right, name ∙ is)) (λ is. no_show (right, name ∙ is)))

pub returns-in-Err-clause-nothing : goal.returns-in-Err-clause-nothing
returns-in-Err-clause-nothing g c one no_sim no_drive no_replay no_show =
    gave_up _ Stop.NoMemory c.args.output.now _ _ _ _ c.give_up.ensures.status (begun_line _ Stop.NoMemory _ _ c.give_up.ensures.said) (λ other. refl)

pub returns-in-Err-try_get_matches_from-clause-nothing :
    goal.returns-in-Err-try_get_matches_from-clause-nothing
returns-in-Err-try_get_matches_from-clause-nothing g c one no_sim no_drive no_replay no_show = c.explain.ensures.nothing one _

-- ## A dialect whose file can't be used

pub returns-in-Ok-try_get_matches_from-clause-unreplayed :
    goal.returns-in-Ok-try_get_matches_from-clause-unreplayed
returns-in-Ok-try_get_matches_from-clause-unreplayed g c one for =
    subst (λ (m : Option (Text × List Row)). NamesCause (is_explained c.args.terminal m) (raw_in m (codes "dialect")) c.args.output.now c.run_named.new.output (g.E.Write.contents c.args.faults.now) (g.E.Write.contents c.run_named.new.faults) c.run_named.result) (met c.in-Ok-try_get_matches_from.matches _ _ c.in-Ok.ensures (λ e. (c.in-Ok-try_get_matches_from.ensures.matches e).1))
    (c.run_named.ensures.unreplayed one (named c.in-Ok-try_get_matches_from.matches _ _ c.in-Ok.ensures (λ e. (c.in-Ok-try_get_matches_from.ensures.matches e).1) ∙ for.1))

shut : (is : Text → Bool) (a b : Option (Text × List Row)) → a ≡ b → IsShut is (raw_in b (codes "dialect")) → IsShut is (raw_in a (codes "dialect"))
shut is a b same h = subst (λ (m : Option (Text × List Row)). IsShut is (raw_in m (codes "dialect"))) (sym same) h

pub returns-in-Ok-try_get_matches_from-clause-undriven :
    goal.returns-in-Ok-try_get_matches_from-clause-undriven
returns-in-Ok-try_get_matches_from-clause-undriven g c one for is =
    let same = met c.in-Ok-try_get_matches_from.matches _ _ c.in-Ok.ensures (λ e. (c.in-Ok-try_get_matches_from.ensures.matches e).1) in
    subst (λ (m : Option (Text × List Row)). NamesCause true (raw_in m (codes "dialect")) c.args.output.now c.run_named.new.output (g.E.Write.contents c.args.faults.now) (g.E.Write.contents c.run_named.new.faults) c.run_named.result) same
    (c.run_named.ensures.undriven one (named c.in-Ok-try_get_matches_from.matches _ _ c.in-Ok.ensures (λ e. (c.in-Ok-try_get_matches_from.ensures.matches e).1) ∙ for.1)
    (shut (g.R.TextFiles.is_shut c.args.rt.now) _ _ same is))

pub returns-in-Ok-try_get_matches_from-clause-replay_shut :
    goal.returns-in-Ok-try_get_matches_from-clause-replay_shut
returns-in-Ok-try_get_matches_from-clause-replay_shut g c for is =
    c.run_named.ensures.replay_shut (named c.in-Ok-try_get_matches_from.matches _ _ c.in-Ok.ensures (λ e. (c.in-Ok-try_get_matches_from.ensures.matches e).1) ∙ for.1)
    (shut (g.R.TextFiles.is_shut c.args.rt.now) _ _ (met c.in-Ok-try_get_matches_from.matches _ _ c.in-Ok.ensures (λ e. (c.in-Ok-try_get_matches_from.ensures.matches e).1)) is)

pub returns-in-Ok-try_get_matches_from-clause-drive_shut :
    goal.returns-in-Ok-try_get_matches_from-clause-drive_shut
returns-in-Ok-try_get_matches_from-clause-drive_shut g c for is =
    c.run_named.ensures.drive_shut (named c.in-Ok-try_get_matches_from.matches _ _ c.in-Ok.ensures (λ e. (c.in-Ok-try_get_matches_from.ensures.matches e).1) ∙ for.1)
    (shut (g.R.TextFiles.is_shut c.args.rt.now) _ _ (met c.in-Ok-try_get_matches_from.matches _ _ c.in-Ok.ensures (λ e. (c.in-Ok-try_get_matches_from.ensures.matches e).1)) is)

pub returns-in-Err-try_get_matches_from-clause-unreplayed :
    goal.returns-in-Err-try_get_matches_from-clause-unreplayed
returns-in-Err-try_get_matches_from-clause-unreplayed g c one for = inl (c.explain.ensures.nothing one _)

pub returns-in-Err-try_get_matches_from-clause-undriven :
    goal.returns-in-Err-try_get_matches_from-clause-undriven
returns-in-Err-try_get_matches_from-clause-undriven g c one for is = inl (c.explain.ensures.nothing one _)

pub returns-in-Err-try_get_matches_from-clause-replay_shut :
    goal.returns-in-Err-try_get_matches_from-clause-replay_shut
returns-in-Err-try_get_matches_from-clause-replay_shut g c for is =
    let one = c.explain.ensures.memory (by_memory _ _ (at_program (λ kinds. HasKind kinds c.in-Err-try_get_matches_from.error) _ _ c.in-Ok.ensures c.in-Err-try_get_matches_from.ensures.kinds) for.0) in
    omega (arith, one)

pub returns-in-Err-try_get_matches_from-clause-drive_shut :
    goal.returns-in-Err-try_get_matches_from-clause-drive_shut
returns-in-Err-try_get_matches_from-clause-drive_shut g c for is =
    let memory = by_memory _ _ (at_program (λ kinds. HasKind kinds c.in-Err-try_get_matches_from.error) _ _ c.in-Ok.ensures c.in-Err-try_get_matches_from.ensures.kinds) for.0 in
    let one = c.explain.ensures.memory memory in
    (omega (arith, one), c.explain.ensures.silent memory)

pub returns-in-Err-clause-unreplayed : goal.returns-in-Err-clause-unreplayed
returns-in-Err-clause-unreplayed g c one for = inl (gave_up _ Stop.NoMemory c.args.output.now _ _ _ _ c.give_up.ensures.status (begun_line _ Stop.NoMemory _ _ c.give_up.ensures.said) (λ other. refl))

pub returns-in-Err-clause-undriven : goal.returns-in-Err-clause-undriven
returns-in-Err-clause-undriven g c one for is = inl (gave_up true Stop.NoMemory c.args.output.now _ _ _ _ c.give_up.ensures.status (begun_line true Stop.NoMemory _ _ c.give_up.ensures.said) (λ other. refl))

-- ## A capture that is shown

pub returns-in-Ok-try_get_matches_from-clause-three :
    goal.returns-in-Ok-try_get_matches_from-clause-three
returns-in-Ok-try_get_matches_from-clause-three g c three =
    (at_program (λ kinds. kinds ≡ []) _ _ c.in-Ok.ensures c.in-Ok-try_get_matches_from.ensures.kinds, sym (named c.in-Ok-try_get_matches_from.matches _ _ c.in-Ok.ensures (λ e. (c.in-Ok-try_get_matches_from.ensures.matches e).1)) ∙ c.run_named.ensures.three three)

pub returns-in-Ok-try_get_matches_from-clause-show :
    goal.returns-in-Ok-try_get_matches_from-clause-show
returns-in-Ok-try_get_matches_from-clause-show g c good for =
    subst (λ (m : Option (Text × List Row)). PrintsShow (g.R.TextFiles.text_of c.args.rt.now) m (g.W.Write.contents c.args.output.now) (g.W.Write.contents c.run_named.new.output) c.run_named.result) (met c.in-Ok-try_get_matches_from.matches _ _ c.in-Ok.ensures (λ e. (c.in-Ok-try_get_matches_from.ensures.matches e).1))
    (c.run_named.ensures.show good (named c.in-Ok-try_get_matches_from.matches _ _ c.in-Ok.ensures (λ e. (c.in-Ok-try_get_matches_from.ensures.matches e).1) ∙ for.1))

pub returns-in-Ok-try_get_matches_from-clause-show_silent :
    goal.returns-in-Ok-try_get_matches_from-clause-show_silent
returns-in-Ok-try_get_matches_from-clause-show_silent g c good for =
    c.run_named.ensures.show_silent good (named c.in-Ok-try_get_matches_from.matches _ _ c.in-Ok.ensures (λ e. (c.in-Ok-try_get_matches_from.ensures.matches e).1) ∙ for.1)

pub returns-in-Ok-try_get_matches_from-clause-unshown :
    goal.returns-in-Ok-try_get_matches_from-clause-unshown
returns-in-Ok-try_get_matches_from-clause-unshown g c one for =
    subst (λ (m : Option (Text × List Row)). SaysUnshown (raw_in m (codes "dialect")) (raw_in m (codes "raw")) (raw_in m (codes "file")) (g.E.Write.contents c.args.faults.now) (g.E.Write.contents c.run_named.new.faults) c.run_named.result) (met c.in-Ok-try_get_matches_from.matches _ _ c.in-Ok.ensures (λ e. (c.in-Ok-try_get_matches_from.ensures.matches e).1))
    (c.run_named.ensures.unshown one (named c.in-Ok-try_get_matches_from.matches _ _ c.in-Ok.ensures (λ e. (c.in-Ok-try_get_matches_from.ensures.matches e).1) ∙ for.1))

shut_word : (is : Text → Bool) (a b : Option (Text × List Row)) → a ≡ b → IsShut is (raw_in b (codes "dialect")) ⊎ (IsShutFile is (raw_in b (codes "file")) ⊎ IsShutFile is (raw_in b (codes "raw")))
    → IsShut is (raw_in a (codes "dialect")) ⊎ (IsShutFile is (raw_in a (codes "file")) ⊎ IsShutFile is (raw_in a (codes "raw")))
shut_word is a b same h = subst (λ (m : Option (Text × List Row)). IsShut is (raw_in m (codes "dialect")) ⊎ (IsShutFile is (raw_in m (codes "file")) ⊎ IsShutFile is (raw_in m (codes "raw")))) (sym same) h

pub returns-in-Ok-try_get_matches_from-clause-show_shut :
    goal.returns-in-Ok-try_get_matches_from-clause-show_shut
returns-in-Ok-try_get_matches_from-clause-show_shut g c for is =
    c.run_named.ensures.show_shut (named c.in-Ok-try_get_matches_from.matches _ _ c.in-Ok.ensures (λ e. (c.in-Ok-try_get_matches_from.ensures.matches e).1) ∙ for.1)
    (shut_word (g.R.TextFiles.is_shut c.args.rt.now) _ _ (met c.in-Ok-try_get_matches_from.matches _ _ c.in-Ok.ensures (λ e. (c.in-Ok-try_get_matches_from.ensures.matches e).1)) is)

-- where nothing is wrong with the words, a parse that fails doesn't end well
not_good : (k : ErrorKind) (kinds : Kinds) (status : ℕ) → (k ≡ OutOfMemory) ⊎ IsAmong k kinds → (k ≡ OutOfMemory → status ≡ 1) → (status ≡ 0) ⊎ (status ≡ 3) → kinds ≡ [] → ⊥
not_good k kinds status has memory good none =
    let one = memory (by_memory k kinds has none) in
    ⊎_elim (λ (zero : status ≡ 0). omega (arith, one, zero)) (λ (three : status ≡ 3). omega (arith, one, three)) good

pub returns-in-Err-try_get_matches_from-clause-show :
    goal.returns-in-Err-try_get_matches_from-clause-show
returns-in-Err-try_get_matches_from-clause-show g c good for =
    absurd (not_good _ _ _ (at_program (λ kinds. HasKind kinds c.in-Err-try_get_matches_from.error) _ _ c.in-Ok.ensures c.in-Err-try_get_matches_from.ensures.kinds) c.explain.ensures.memory good for.0)

pub returns-in-Err-try_get_matches_from-clause-show_silent :
    goal.returns-in-Err-try_get_matches_from-clause-show_silent
returns-in-Err-try_get_matches_from-clause-show_silent g c good for =
    absurd (not_good _ _ _ (at_program (λ kinds. HasKind kinds c.in-Err-try_get_matches_from.error) _ _ c.in-Ok.ensures c.in-Err-try_get_matches_from.ensures.kinds) c.explain.ensures.memory good for.0)

pub returns-in-Err-try_get_matches_from-clause-three :
    goal.returns-in-Err-try_get_matches_from-clause-three
returns-in-Err-try_get_matches_from-clause-three g c three = let most = c.explain.ensures.status in absurd (omega (arith, most, three))

stopped : {O : Type 0} (dialect raw file : Option Text) (old new : O) (before after : Option (List ℕ)) (status : ℕ) → HasGivenUp true old new before after status → SaysUnshown dialect raw file before after status
stopped dialect raw file old new before after status up = inl (inr (record { stop = up.stop; has_status = up.gives_up.has_status; said = up.gives_up.said }))

pub returns-in-Err-try_get_matches_from-clause-unshown :
    goal.returns-in-Err-try_get_matches_from-clause-unshown
returns-in-Err-try_get_matches_from-clause-unshown g c one for = stopped _ _ _ _ _ _ _ _ (c.explain.ensures.nothing one true)

pub returns-in-Err-try_get_matches_from-clause-show_shut :
    goal.returns-in-Err-try_get_matches_from-clause-show_shut
returns-in-Err-try_get_matches_from-clause-show_shut g c for is =
    let memory = by_memory _ _ (at_program (λ kinds. HasKind kinds c.in-Err-try_get_matches_from.error) _ _ c.in-Ok.ensures c.in-Err-try_get_matches_from.ensures.kinds) for.0 in
    let one = c.explain.ensures.memory memory in
    (omega (arith, one), (omega (arith, one), c.explain.ensures.silent memory))

pub returns-in-Err-clause-unshown : goal.returns-in-Err-clause-unshown
returns-in-Err-clause-unshown g c one for =
    stopped _ _ _ _ _ _ _ _ (gave_up true Stop.NoMemory c.args.output.now c.args.output.now _ _ _ c.give_up.ensures.status (begun_line true Stop.NoMemory _ _ c.give_up.ensures.said) (λ other. refl))

-- ## What is told of how much was read

pub returns-in-Ok-try_get_matches_from-clause-show_read :
    goal.returns-in-Ok-try_get_matches_from-clause-show_read
returns-in-Ok-try_get_matches_from-clause-show_read g c for =
    subst (λ (m : Option (Text × List Row)). TellsShow (g.R.TextFiles.text_of c.args.rt.now) (raw_in m (codes "raw")) (raw_in m (codes "file")) c.args.progress.now.shown c.run_named.new.progress c.run_named.result)
    (met c.in-Ok-try_get_matches_from.matches _ _ c.in-Ok.ensures (λ e. (c.in-Ok-try_get_matches_from.ensures.matches e).1))
    (c.run_named.ensures.show_read (named c.in-Ok-try_get_matches_from.matches _ _ c.in-Ok.ensures (λ e. (c.in-Ok-try_get_matches_from.ensures.matches e).1) ∙ for.1))

pub returns-in-Err-try_get_matches_from-clause-show_read :
    goal.returns-in-Err-try_get_matches_from-clause-show_read
returns-in-Err-try_get_matches_from-clause-show_read g c for =
    let one = c.explain.ensures.memory (by_memory _ _ (at_program (λ kinds. HasKind kinds c.in-Err-try_get_matches_from.error) _ _ c.in-Ok.ensures c.in-Err-try_get_matches_from.ensures.kinds) for.0) in
    not_shown _ _ _ _ c.args.progress.now _ refl (omega (arith, one)) (omega (arith, one))

pub returns-in-Err-clause-show_read : goal.returns-in-Err-clause-show_read
returns-in-Err-clause-show_read g c for =
    let one = c.give_up.ensures.status in
    not_shown _ _ _ _ c.args.progress.now _ refl (omega (arith, one)) (omega (arith, one))

pub returns-in-Ok-try_get_matches_from-clause-others :
    goal.returns-in-Ok-try_get_matches_from-clause-others
returns-in-Ok-try_get_matches_from-clause-others g c other =
    c.run_named.ensures.others (λ is. other (at_program (λ kinds. kinds ≡ []) _ _ c.in-Ok.ensures c.in-Ok-try_get_matches_from.ensures.kinds, sym (named c.in-Ok-try_get_matches_from.matches _ _ c.in-Ok.ensures (λ e. (c.in-Ok-try_get_matches_from.ensures.matches e).1)) ∙ is))

-- ## What is said at status 2, and of a drive at status 1

pub returns-in-Ok-try_get_matches_from-clause-frames_bad :
    goal.returns-in-Ok-try_get_matches_from-clause-frames_bad
returns-in-Ok-try_get_matches_from-clause-frames_bad g c two for =
    subst (λ (m : Option (Text × List Row)). RefusesFrames (is_explained c.args.terminal m) m (g.I.Read.remaining c.args.input.now) (g.E.Write.contents c.args.faults.now) (g.E.Write.contents c.run_named.new.faults)) (met c.in-Ok-try_get_matches_from.matches _ _ c.in-Ok.ensures (λ e. (c.in-Ok-try_get_matches_from.ensures.matches e).1))
    (c.run_named.ensures.frames_bad two (named c.in-Ok-try_get_matches_from.matches _ _ c.in-Ok.ensures (λ e. (c.in-Ok-try_get_matches_from.ensures.matches e).1) ∙ for.1))

pub returns-in-Ok-try_get_matches_from-clause-replay_bad :
    goal.returns-in-Ok-try_get_matches_from-clause-replay_bad
returns-in-Ok-try_get_matches_from-clause-replay_bad g c two for =
    subst (λ (m : Option (Text × List Row)). RefusesReplay (is_explained c.args.terminal m) m (g.I.Read.remaining c.args.input.now) (g.E.Write.contents c.args.faults.now) (g.E.Write.contents c.run_named.new.faults)) (met c.in-Ok-try_get_matches_from.matches _ _ c.in-Ok.ensures (λ e. (c.in-Ok-try_get_matches_from.ensures.matches e).1))
    (c.run_named.ensures.replay_bad two (named c.in-Ok-try_get_matches_from.matches _ _ c.in-Ok.ensures (λ e. (c.in-Ok-try_get_matches_from.ensures.matches e).1) ∙ for.1))

pub returns-in-Ok-try_get_matches_from-clause-bench_bad :
    goal.returns-in-Ok-try_get_matches_from-clause-bench_bad
returns-in-Ok-try_get_matches_from-clause-bench_bad g c two for =
    subst (λ (m : Option (Text × List Row)). RefusesBench (is_explained c.args.terminal m) m (g.I.Read.remaining c.args.input.now) (g.E.Write.contents c.args.faults.now) (g.E.Write.contents c.run_named.new.faults)) (met c.in-Ok-try_get_matches_from.matches _ _ c.in-Ok.ensures (λ e. (c.in-Ok-try_get_matches_from.ensures.matches e).1))
    (c.run_named.ensures.bench_bad two (named c.in-Ok-try_get_matches_from.matches _ _ c.in-Ok.ensures (λ e. (c.in-Ok-try_get_matches_from.ensures.matches e).1) ∙ for.1))

pub returns-in-Ok-try_get_matches_from-clause-show_bad :
    goal.returns-in-Ok-try_get_matches_from-clause-show_bad
returns-in-Ok-try_get_matches_from-clause-show_bad g c two for =
    subst (λ (m : Option (Text × List Row)). RefusesShow (raw_in m (codes "dialect")) (raw_in m (codes "raw")) (raw_in m (codes "file")) (g.E.Write.contents c.args.faults.now) (g.E.Write.contents c.run_named.new.faults)) (met c.in-Ok-try_get_matches_from.matches _ _ c.in-Ok.ensures (λ e. (c.in-Ok-try_get_matches_from.ensures.matches e).1))
    (c.run_named.ensures.show_bad two (named c.in-Ok-try_get_matches_from.matches _ _ c.in-Ok.ensures (λ e. (c.in-Ok-try_get_matches_from.ensures.matches e).1) ∙ for.1))

pub returns-in-Ok-try_get_matches_from-clause-drive_fault :
    goal.returns-in-Ok-try_get_matches_from-clause-drive_fault
returns-in-Ok-try_get_matches_from-clause-drive_fault g c one for =
    subst
    (λ (m : Option (Text × List Row)). SaysUndriven (raw_in m (codes "dialect")) (raw_in m (codes "device")) (raw_in m (codes "capture")) (raw_in m (codes "arm")) (all_in m (codes "data")) (all_in m (codes "text")) (g.E.Write.contents c.args.faults.now) (g.E.Write.contents c.run_named.new.faults))
    (met c.in-Ok-try_get_matches_from.matches _ _ c.in-Ok.ensures (λ e. (c.in-Ok-try_get_matches_from.ensures.matches e).1))
    (c.run_named.ensures.drive_fault one (named c.in-Ok-try_get_matches_from.matches _ _ c.in-Ok.ensures (λ e. (c.in-Ok-try_get_matches_from.ensures.matches e).1) ∙ for.1))

pub returns-in-Err-try_get_matches_from-clause-frames_bad :
    goal.returns-in-Err-try_get_matches_from-clause-frames_bad
returns-in-Err-try_get_matches_from-clause-frames_bad g c two for =
    let one = c.explain.ensures.memory (by_memory _ _ (at_program (λ kinds. HasKind kinds c.in-Err-try_get_matches_from.error) _ _ c.in-Ok.ensures c.in-Err-try_get_matches_from.ensures.kinds) for.0) in absurd (omega (arith, one, two))

pub returns-in-Err-try_get_matches_from-clause-replay_bad :
    goal.returns-in-Err-try_get_matches_from-clause-replay_bad
returns-in-Err-try_get_matches_from-clause-replay_bad g c two for =
    let one = c.explain.ensures.memory (by_memory _ _ (at_program (λ kinds. HasKind kinds c.in-Err-try_get_matches_from.error) _ _ c.in-Ok.ensures c.in-Err-try_get_matches_from.ensures.kinds) for.0) in absurd (omega (arith, one, two))

pub returns-in-Err-try_get_matches_from-clause-bench_bad :
    goal.returns-in-Err-try_get_matches_from-clause-bench_bad
returns-in-Err-try_get_matches_from-clause-bench_bad g c two for =
    let one = c.explain.ensures.memory (by_memory _ _ (at_program (λ kinds. HasKind kinds c.in-Err-try_get_matches_from.error) _ _ c.in-Ok.ensures c.in-Err-try_get_matches_from.ensures.kinds) for.0) in absurd (omega (arith, one, two))

pub returns-in-Err-try_get_matches_from-clause-show_bad :
    goal.returns-in-Err-try_get_matches_from-clause-show_bad
returns-in-Err-try_get_matches_from-clause-show_bad g c two for =
    let one = c.explain.ensures.memory (by_memory _ _ (at_program (λ kinds. HasKind kinds c.in-Err-try_get_matches_from.error) _ _ c.in-Ok.ensures c.in-Err-try_get_matches_from.ensures.kinds) for.0) in absurd (omega (arith, one, two))

pub returns-in-Err-try_get_matches_from-clause-drive_fault :
    goal.returns-in-Err-try_get_matches_from-clause-drive_fault
returns-in-Err-try_get_matches_from-clause-drive_fault g c one for =
    inl (gave_up_one _ _ _ _ _ _ _ one (c.explain.ensures.nothing one true))

pub returns-in-Err-clause-drive_fault : goal.returns-in-Err-clause-drive_fault
returns-in-Err-clause-drive_fault g c one for = inl (memory_one true (codes "dialect") _ _ _ c.give_up.ensures.said)
