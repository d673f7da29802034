-- What the line and one of its files do leads all of it on.
use Rattle.std.specs.Prelude.{◌≡◌, ◌≢◌, ℕ, ◌==◌, ◌<◌, Bool, true, false, List, [], ◌∷◌, ◌++◌, All, length, take, IfOk, MatchResult, OnOk, Result, Ok, Err, refl, slice_index_or, slice_set}
use Rattle.std.specs.List.{list_all}
use Rattle.std.proofs.Common.{ap, sym, ◌∙◌, subst, suc, zero}
use Rattle.std.proofs.lemmas.Bool.{eqb-true, eqb-false}
use Rattle.std.proofs.lemmas.List.{append_assoc, length-map, length-set, get_or-map, get_or-set_same, get_or-set_other}
use Rattle.std.proofs.lemmas.List.Elements.{All-weaker, All-get_or, All-from_get_or}
use Rattle.serial_line.specs.declared.line.LineFault.{LineFault}
use Rattle.serial_line.specs.LineViews.{LineView}
use Rattle.modem_data.specs.Passing.{Pass}
use Rattle.mux_station.specs.declared.role.Role.{Role}
use Rattle.modem_data.specs.PipeSets.{AreApart}
use Rattle.modem_data.specs.Hops.{Hop, passes}
use Rattle.modem_data_line.specs.DataLines.{Before, DataLineState, LineFits, LeadsBy, TakesBy, is_of_driver, may_go, may_pass, with_taken}
use Rattle.data_files.specs.Files.{FileFits, FileState, FiledState, HasMoved, dlcis}
use Rattle.data_files.specs.Moves.{FileMoves, is_of_file}
use Rattle.data_files.proofs.Hopping.{all_both, all_kind, any_passes, driver_passes, fits_beside, goes_passes, is_beside, of_file_beside, passes_beside, passes_both}

-- ## The line alone

-- by hops that give and read nothing of any file
by_hops : {X Y : Type 0} (look : X → LineView) (file_look : Y → LineView) (v : FiledState X Y) (x : DataLineState X) (hops : List Hop)
    → ((d : ℕ) → list_all (is_beside d) hops ≡ true)
    → ((past : List Hop) → LineFits look v.role v.n1 (dlcis v.files) v.before v.line past → LineFits look v.role v.n1 (dlcis v.files) v.before x (hops ++ past))
    → HasMoved look file_look v → HasMoved look file_look (record v { line = x })
by_hops look file_look v x hops beside leads h = record {
  past = hops ++ h.past;
  fits = leads h.past h.fits;
  files = subst (λ (ps : List Pass). All (FileFits file_look ps) v.files) (sym (passes_both hops h.past))
      (All-weaker (FileFits file_look (passes h.past)) (FileFits file_look (passes hops ++ passes h.past))
      (λ (f : FileState _) k. fits_beside file_look f hops (passes h.past) (beside f.dlci) k) v.files h.files);
}

passing : (hops : List Hop) → list_all (may_pass false) hops ≡ true → (d : ℕ) → list_all (is_beside d) hops ≡ true
passing hops e d = all_kind (may_pass false) (is_beside d) hops (passes_beside d) e

-- where octets and frames pass the line, and no lane is called, all its files still fit
pub line_passes : {X Y : Type 0} (look : X → LineView) (file_look : Y → LineView) (v : FiledState X Y) (x : DataLineState X) (behind : Bool)
    → LeadsBy look (may_pass behind) v.line x → HasMoved look file_look v → HasMoved look file_look (record v { line = x })
line_passes look file_look v x behind l h =
    by_hops look file_look v x l.hops (passing l.hops (all_kind (may_pass behind) (may_pass false) l.hops (any_passes behind) l.only)) (l.leads v.role v.n1 (dlcis v.files) v.before) h

-- so they do where octets and frames go out
pub line_goes : {X Y : Type 0} (look : X → LineView) (file_look : Y → LineView) (v : FiledState X Y) (x : DataLineState X) (behind : Bool)
    → LeadsBy look (may_go behind) v.line x → HasMoved look file_look v → HasMoved look file_look (record v { line = x })
line_goes look file_look v x behind l h =
    by_hops look file_look v x l.hops (passing l.hops (all_kind (may_go behind) (may_pass false) l.hops (goes_passes behind) l.only)) (l.leads v.role v.n1 (dlcis v.files) v.before) h

-- what the line itself gave and took stays
pub line_same : {X Y : Type 0} (look : X → LineView) (file_look : Y → LineView) (v : FiledState X Y) (x : DataLineState X) (w : X) → x ≡ record v.line { line = w }
    → (look w).received ≡ (look v.line.line).received → (look w).sent ≡ (look v.line.line).sent → HasMoved look file_look v → HasMoved look file_look (record v { line = x })
line_same look file_look v x w e came went h = subst (λ (y : DataLineState _). HasMoved look file_look (record v { line = y })) (sym e) (record {
  past = h.past;
  fits = record {
    relay_fits = h.fits.relay_fits;
    came = came ∙ h.fits.came;
    went = went ∙ h.fits.went;
    read_are = h.fits.read_are;
    sent_are = h.fits.sent_are;
  };
  files = h.files;
})

-- octets that the driver writes
taken_before : (octets : List ℕ) (before past : List Hop) → with_taken octets (before ++ past) ≡ with_taken octets before ++ past
taken_before [] before past = refl
taken_before (o ∷ octets) before past = refl

taken_beside : (octets : List ℕ) (before : List Hop) (d : ℕ) → list_all (is_beside d) before ≡ true → list_all (is_beside d) (with_taken octets before) ≡ true
taken_beside [] before d e = e
taken_beside (o ∷ octets) before d e = e

-- and where octets of the driver's are taken
pub line_takes : {X Y : Type 0} (look : X → LineView) (file_look : Y → LineView) (v : FiledState X Y) (x : DataLineState X) (octets : List ℕ)
    → TakesBy look octets v.line x → HasMoved look file_look v → HasMoved look file_look (record v { line = x })
line_takes look file_look v x octets l h =
    by_hops look file_look v x (l.after ++ with_taken octets l.before)
    (λ d. all_both (is_beside d) l.after (with_taken octets l.before)
    (passing l.after (all_kind (may_go x.is_behind) (may_pass false) l.after (goes_passes x.is_behind) l.only_after) d)
    (taken_beside octets l.before d (passing l.before (all_kind is_of_driver (may_pass false) l.before driver_passes l.only_before) d)))
    (λ past k. subst (λ (hs : List Hop). LineFits look v.role v.n1 (dlcis v.files) v.before x hs)
    (ap (λ (hs : List Hop). l.after ++ hs) (taken_before octets l.before past) ∙ sym (append_assoc l.after (with_taken octets l.before) past))
    (l.leads v.role v.n1 (dlcis v.files) v.before past k)) h

-- a call that failed, and was counted
pub line_counts : {X Y : Type 0} (look : X → LineView) (file_look : Y → LineView) (v : FiledState X Y) (x : DataLineState X) (calls failures : ℕ)
    → x ≡ record v.line { calls = calls; failures = failures } → HasMoved look file_look v → HasMoved look file_look (record v { line = x })
line_counts look file_look v x calls failures e h = subst (λ (y : DataLineState _). HasMoved look file_look (record v { line = y })) (sym e) (record {
  past = h.past;
  fits = record {
    relay_fits = h.fits.relay_fits;
    came = h.fits.came;
    went = h.fits.went;
    read_are = h.fits.read_are;
    sent_are = h.fits.sent_are;
  };
  files = h.files;
})

-- what a write of the driver's does
pub line_writes : {X Y : Type 0} (look : X → LineView) (file_look : Y → LineView) (v : FiledState X Y) (x : DataLineState X) (octets : List ℕ) (calls failures : ℕ)
    (result : Result ℕ LineFault) (P : ℕ → Type 0) → IfOk result (λ n. TakesBy look (take n octets) v.line x)
    → MatchResult result P (λ _. x ≡ record v.line { calls = calls; failures = failures }) → HasMoved look file_look v → HasMoved look file_look (record v { line = x })
line_writes look file_look v x octets calls failures (Ok n) P takes call h = line_takes look file_look v x (take n octets) takes h
line_writes look file_look v x octets calls failures (Err why) P takes call h = line_counts look file_look v x calls failures call h

-- ## One file

-- a file in the place of one on its own connection leaves the connections as they are
pub set_dlcis : {Y : Type 0} (files : List (FileState Y)) (i : ℕ) (f : FileState Y) → f.dlci ≡ (slice_index_or files i f).dlci → dlcis (slice_set files i f) ≡ dlcis files
set_dlcis [] i f e = refl
set_dlcis (g ∷ files) zero f e = ap (λ (d : ℕ). d ∷ dlcis files) e
set_dlcis (g ∷ files) (suc i) f e = ap (λ (ds : List ℕ). g.dlci ∷ ds) (set_dlcis files i f e)

-- the connection at a place is that of the file there
pub dlci_at : {Y : Type 0} (files : List (FileState Y)) (j : ℕ) (f : FileState Y) (x : ℕ) → j < length files → slice_index_or (dlcis files) j x ≡ (slice_index_or files j f).dlci
dlci_at files j f x there = get_or-map (λ (g : FileState _). g.dlci) files j f x there

-- the place of a file is that of a connection
pub in_there : {Y : Type 0} (files : List (FileState Y)) (j : ℕ) → j < length files → j < length (dlcis files)
in_there files j there = subst (λ (n : ℕ). j < n) (sym (length-map files (λ (f : FileState _). f.dlci))) there

-- two files at different places have different connections
pub apart_at : {Y : Type 0} (files : List (FileState Y)) (i j : ℕ) (f : FileState Y) → AreApart (dlcis files) → i < length files → j < length files → j ≢ i
    → ((slice_index_or files i f).dlci == (slice_index_or files j f).dlci) ≡ false
unfolding AreApart
apart_at files i j f apart there short other =
    subst (λ (d : ℕ). (d == (slice_index_or files j f).dlci) ≡ false) (dlci_at files i f 0 there)
    (subst (λ (d : ℕ). (slice_index_or (dlcis files) i 0 == d) ≡ false) (dlci_at files j f 0 short)
    (apart j i 0 (in_there files j short) (in_there files i there) (λ q. other (sym q))))

each_on : {X Y : Type 0} (look : X → LineView) (file_look : Y → LineView) (files : List (FileState Y)) (v w : DataLineState X) (i : ℕ) (f : FileState Y)
    (role : Role) (n1 : ℕ) (b : Before) (past : List Hop) → LineFits look role n1 (dlcis files) b v past → i < length files
    → (m : FileMoves look file_look v w (slice_index_or files i f) f) → All (FileFits file_look (passes past)) files
    → All (FileFits file_look (passes (m.hops ++ past))) (slice_set files i f)
each_on look file_look files v w i f role n1 b past fits there m each =
    All-from_get_or (FileFits file_look (passes (m.hops ++ past))) (slice_set files i f) f (λ j short. at j (j == i) refl (subst (λ (n : ℕ). j < n) (length-set files i f) short))
  where
    at : (j : ℕ) (b : Bool) → (j == i) ≡ b → j < length files → FileFits file_look (passes (m.hops ++ past)) (slice_index_or (slice_set files i f) j f)
    at j true e short = subst (λ (h : FileState _). FileFits file_look (passes (m.hops ++ past)) h)
        (sym (get_or-set_same files i f f there) ∙ ap (λ (k : ℕ). slice_index_or (slice_set files i f) k f) (sym (eqb-true j i e)))
        (m.fits role n1 (dlcis files) b past fits (All-get_or (FileFits file_look (passes past)) files i f there each))
    at j false e short =
        let other : j ≢ i = λ q. eqb-false j i e q in
        let here = slice_index_or files j f in
        let apart_here = apart_at files i j f fits.relay_fits.pipes_fit.apart there short other in
        subst (λ (h : FileState _). FileFits file_look (passes (m.hops ++ past)) h) (sym (get_or-set_other files i j f f other))
        (subst (λ (ps : List Pass). FileFits file_look ps here) (sym (passes_both m.hops past)) (fits_beside file_look here m.hops (passes past) (all_kind (is_of_file (slice_index_or files i f).dlci) (is_beside here.dlci) m.hops
        (of_file_beside (slice_index_or files i f).dlci here.dlci apart_here) m.only) (All-get_or (FileFits file_look (passes past)) files j f short each)))

-- the file at a place moves with the line, and all files fit
pub moves_at : {X Y : Type 0} (look : X → LineView) (file_look : Y → LineView) (v : FiledState X Y) (x : DataLineState X) (i : ℕ) (f : FileState Y)
    → i < length v.files → FileMoves look file_look v.line x (slice_index_or v.files i f) f → HasMoved look file_look v
    → HasMoved look file_look (record v { line = x; files = slice_set v.files i f })
moves_at look file_look v x i f there m h = record {
  past = m.hops ++ h.past;
  fits = subst (λ (ds : List ℕ). LineFits look v.role v.n1 ds v.before x (m.hops ++ h.past)) (sym (set_dlcis v.files i f m.dlci_is)) (m.leads v.role v.n1 (dlcis v.files) v.before h.past h.fits);
  files = each_on look file_look v.files v.line x i f v.role v.n1 v.before h.past h.fits there m h.files;
}

-- all that it took is handed out
pub all_passed : {A E : Type 0} (r : Result A E) (passed before now : List ℕ) → OnOk r (passed ≡ before) → now ≡ before → OnOk r (passed ≡ now)
all_passed (Ok x) passed before now h e = h ∙ sym e
all_passed (Err x) passed before now h e = tt
