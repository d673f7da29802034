-- A modem for a client with files beside connections, by the words.
use Rattle.std.proofs.Common.{◌≡◌, ◌⊎◌, List, Option, ℕ, codes, inl, inr, refl, subst}
use Rattle.clap.specs.Words.{Text}
use Rattle.clap.specs.declared.ArgMatches.{ArgMatches}
use Rattle.modem_data.specs.declared.begin.Begin.TheVariants.{ByOwnConnect}
use Rattle.ctl_sim.specs.DataEnds.{EndsByDataFault, HasServedOpened}
use Rattle.ctl_sim.specs.Leaving.{SaysBad}
use Rattle.ctl_sim.specs.declared.serving.SimOptions.{SimOptions}
use Rattle.file_threads.specs.declared.data_path.DataPath.{DataPath}
use Rattle.modemctl.specs.Benches.{AreMatched}
use Rattle.modemctl.specs.Drives.{AreDataPaths}
use Rattle.modemctl.specs.SimData.{LeavesData, ServesData}
use Rattle.modemctl.specs.Shows.{given_for}
use Rattle.modemctl.specs.Sims.{HasNoCapture, RefusesWith, SimFiles, files_matched}
use Rattle.modemctl.proofs.words.sim_data.sim_data_words.Goals as goal

-- behind paths and options of which nothing was said
serves_behind : {F : Type 0} (given : Option (List Text)) (paths seen : List DataPath) (contents : F → Option (List ℕ)) (start told : F) (after : Option (List ℕ)) → AreDataPaths given ByOwnConnect paths → seen ≡ paths → told ≡ start
    → HasServedOpened seen (contents told) after → ServesData given (contents start) after
serves_behind given paths seen contents start told after given_are seen_are same served = record {
  data_paths = paths;
  given_are = given_are;
  served = subst (λ (t : List DataPath × _). HasServedOpened t.0 (contents t.1) after) (λ i. (seen_are i, same i)) served;
}

leaves_behind : {O F : Type 0} (files : SimFiles) (given : Option (List Text)) (paths seen : List DataPath) (old new : O) (contents : F → Option (List ℕ)) (start told : F) (after : Option (List ℕ)) → AreDataPaths given ByOwnConnect paths → seen ≡ paths → told ≡ start
    → (new ≡ old) × HasNoCapture files.capture (contents told) after ⊎ EndsByDataFault seen (contents told) after → LeavesData files given old new (contents start) after
leaves_behind files given paths seen old new contents start told after given_are seen_are same (inl none) =
    inl (none.0, inr (inr (inr (subst (λ (f : _). HasNoCapture files.capture (contents f) after) same none.1))))
leaves_behind files given paths seen old new contents start told after given_are seen_are same (inr ends) = inr (record {
  data_paths = paths;
  given_are = given_are;
  ended = subst (λ (t : List DataPath × _). EndsByDataFault t.0 (contents t.1) after) (λ i. (seen_are i, same i)) ends;
})

refuses_behind : {F : Type 0} (texts : Text → Option (List ℕ)) (n1 : ℕ) (m : ArgMatches) (options : SimOptions) (contents : F → Option (List ℕ)) (start told : F) (after : Option (List ℕ)) → told ≡ start → AreMatched texts n1 m options → SaysBad options (contents told) after
    → RefusesWith texts n1 m (contents start) after
refuses_behind texts n1 m options contents start told after same matched says =
    inr (record { options = options; matched = matched; says = subst (λ (f : _). SaysBad options (contents f) after) same says })

pub returns-in-Ok-sim_options_of-clause-served :
    goal.returns-in-Ok-sim_options_of-clause-served
returns-in-Ok-sim_options_of-clause-served g c zero =
    serves_behind _ c.in-Ok.data_paths.items _ g.E.Write.contents _ _ _ c.in-Ok.ensures c.as_slice.ensures.value c.in-Ok-sim_options_of.ensures.silent (c.sim_data_with.ensures.served zero)

pub returns-in-Ok-sim_options_of-clause-left :
    goal.returns-in-Ok-sim_options_of-clause-left
returns-in-Ok-sim_options_of-clause-left g c one =
    leaves_behind (files_matched c.args.matches.now) (given_for c.args.matches.now (codes "data")) c.in-Ok.data_paths.items _ _ _ g.E.Write.contents _ _ _ c.in-Ok.ensures c.as_slice.ensures.value c.in-Ok-sim_options_of.ensures.silent (c.sim_data_with.ensures.left one)

pub returns-in-Ok-sim_options_of-clause-told :
    goal.returns-in-Ok-sim_options_of-clause-told
returns-in-Ok-sim_options_of-clause-told g c two =
    inr (refuses_behind (g.R.TextFiles.text_of c.args.rt.now) c.args.n1 c.args.matches.now c.in-Ok-sim_options_of.options g.E.Write.contents _ _ _ c.in-Ok-sim_options_of.ensures.silent c.in-Ok-sim_options_of.ensures.matched (c.sim_data_with.ensures.told two))

pub returns-in-Err-sim_options_of-clause-left :
    goal.returns-in-Err-sim_options_of-clause-left
returns-in-Err-sim_options_of-clause-left g c one = inl (refl, c.in-Err-sim_options_of.ensures.left one)

pub returns-in-Err-sim_options_of-clause-told :
    goal.returns-in-Err-sim_options_of-clause-told
returns-in-Err-sim_options_of-clause-told g c two = inr (inl (c.in-Err-sim_options_of.ensures.told two))

pub returns-in-Err-clause-left : goal.returns-in-Err-clause-left
returns-in-Err-clause-left g c one = inl (refl, inl (c.refuse_data.ensures.said one))

pub returns-in-Err-clause-told : goal.returns-in-Err-clause-told
returns-in-Err-clause-told g c two = inl (c.refuse_data.ensures.told two)
