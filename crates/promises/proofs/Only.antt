-- No call says another number than its own: it follows from the order in which it tells its faults. Assumes nothing.
use Rattle.std.specs.Prelude.{Err, Result, ℤ}
use Prim.Native.Nat.{ℕ}
use mathlib.Core.Path.{refl}
use mathlib.Core.List.{List, [], ◌∷◌}
use Rattle.show.specs.Outcomes.{Check}
use Rattle.show.specs.declared.refusal.Refusal.{Refusal}
use Rattle.show.specs.declared.Show.{Show}
use Rattle.show.specs.Outcomes.{Outcome, check_outcome}
use Rattle.theory.specs.Counts.{Accepted}
use Rattle.theory.specs.Shows.{load_of}
use Rattle.cost.specs.WorstTimes.{worst_outcome}
use Rattle.count.specs.Answers.{asked_outcome}
use Rattle.verdict.specs.Answers.{verdict_outcome}
use Rattle.trial.specs.Answers.{answer_outcome}
use Rattle.reason.specs.declared.Reason.TheVariants as reason
use Rattle.reason.specs.Answers.{reason_outcome, loaded_outcome}
use Rattle.scheduler.specs.declared.Choice.TheVariants as choice
use Rattle.scheduler.specs.Answers.{choice_outcome}
use Rattle.workahead.specs.Answers.{spare_outcome}
use Rattle.promises.specs.Refusals.{Says, Only}
use Rattle.promises.specs.Order.{Grants, ◌when◌else◌, ShowThen, WriteOrder}
use Rattle.promises.proofs.Says.{Among, says, grants_among, when_among, limits_among, show_among, file_among}
use Rattle.promises.proofs.Order.{order}

check_says : (l : List ℕ) (k : Check) → Among l (check_outcome k) → Says Err k l
check_says = says Err check_outcome (λ w. refl)

spare_says : (l : List ℕ) (z : (Result ℤ Refusal)) → Among l (spare_outcome z) → Says Err z l
spare_says = says Err spare_outcome (λ w. refl)

-- 2, 5, 6, 7 and no more; with 8; 2, 4, 5, 6, 7, 16
limits_alone : (s : Show) {o : Outcome} → ShowThen s Grants o → Among (2 ∷ 5 ∷ 6 ∷ 7 ∷ []) o
limits_alone s = let l : List ℕ = 2 ∷ 5 ∷ 6 ∷ 7 ∷ [] in show_among l tt tt tt (grants_among l) s tt

eight_besides : (s : Show) {o : Outcome} → ShowThen s (8 when (Accepted (load_of s) → ⊥) else Grants) o → Among (2 ∷ 5 ∷ 6 ∷ 7 ∷ 8 ∷ []) o
eight_besides s = let l : List ℕ = 2 ∷ 5 ∷ 6 ∷ 7 ∷ 8 ∷ [] in show_among l tt tt tt (when_among l tt (grants_among l)) s tt

writes_alone : (x : Show) (note : List ℕ) (room : ℕ) {o : Outcome} → WriteOrder x note room o → Among (2 ∷ 4 ∷ 5 ∷ 6 ∷ 7 ∷ 16 ∷ []) o
writes_alone x note room =
    let l : List ℕ = 2 ∷ 4 ∷ 5 ∷ 6 ∷ 7 ∷ 16 ∷ [] in
    when_among l tt (when_among l tt (limits_among l tt tt tt (when_among l tt (grants_among l)) x))

pub only : Only
only =
    let shows = order.shows in
    let files = order.files in
    let runs = order.runs in
    let of_show : List ℕ = 2 ∷ 5 ∷ 6 ∷ 7 ∷ [] in
    let of_verdict : List ℕ = 2 ∷ 5 ∷ 6 ∷ 7 ∷ 8 ∷ [] in
    let of_writer : List ℕ = 2 ∷ 4 ∷ 5 ∷ 6 ∷ 7 ∷ 16 ∷ [] in
    record {
      check = λ s. check_says of_show _ (limits_alone s (shows.check s));
      takes = λ c N n.
          (let l : List ℕ = 5 ∷ 6 ∷ [] in
          says Err worst_outcome (λ w. refl) l _ (when_among l tt (when_among l tt (grants_among l)) (shows.takes c N n)));
      need = λ R A t.
          (let l : List ℕ = 5 ∷ 7 ∷ [] in
          says Err asked_outcome (λ w. refl) l _ (when_among l tt (when_among l tt (grants_among l)) (shows.need R A t)));
      worst_time = λ s i n.
          (let l : List ℕ = 2 ∷ 5 ∷ 6 ∷ 7 ∷ 9 ∷ [] in
          says Err worst_outcome (λ w. refl) l _ (show_among l tt tt tt (when_among l tt (grants_among l)) s tt (shows.worst_time s i n)));
      reading = λ f.
          (let l : List ℕ = 1 ∷ 2 ∷ 3 ∷ 4 ∷ 5 ∷ 6 ∷ 7 ∷ [] in
          check_says l _ (file_among l tt tt tt (grants_among l) f tt tt tt tt (files.reading f)));
      writing = λ x note room. check_says of_writer _ (writes_alone x note room (files.writing x note room));
      rereading = λ x note room. check_says of_writer _ (writes_alone x note room (files.rereading x note room));
      copying = λ f room.
          (let l : List ℕ = 1 ∷ 2 ∷ 3 ∷ 4 ∷ 5 ∷ 6 ∷ 7 ∷ 16 ∷ [] in
          check_says l _ (file_among l tt tt tt (when_among l tt (grants_among l)) f tt tt tt tt (files.copying f room)));
      reporting = λ f b r x h. (let l : List ℕ = 16 ∷ [] in check_says l _ (when_among l tt (grants_among l) (files.reporting f b r x h)));
      explaining = λ f b r x h. (let l : List ℕ = 16 ∷ [] in check_says l _ (when_among l tt (grants_among l) (files.explaining f b r x h)));
      deciding = λ s d h. says Err verdict_outcome (λ w. refl) of_verdict _ (eight_besides s (shows.deciding s d h));
      why = λ s r h. says Err reason_outcome (λ w. refl) of_show r (limits_alone s (shows.why s r h));
      load = λ s. says Err loaded_outcome (λ w. refl) of_show _ (limits_alone s (shows.load s));
      trying = λ s m t h. says Err answer_outcome (λ w. refl) of_show _ (limits_alone s (shows.trying s m t h));
      opening = λ s o h. check_says of_verdict _ (eight_besides s (shows.opening s o h));
      pass = λ r d. (let l : List ℕ = 19 ∷ 11 ∷ [] in check_says l _ (when_among l tt (when_among l tt (grants_among l)) (runs.pass r d)));
      take = λ r i n.
          (let l : List ℕ = 19 ∷ 9 ∷ 12 ∷ 10 ∷ [] in
          check_says l _ (when_among l tt (when_among l tt (when_among l tt (when_among l tt (grants_among l)))) (runs.take r i n)));
      player = λ s x b n.
          (let l : List ℕ = 19 ∷ 12 ∷ 10 ∷ [] in
          check_says l _ (when_among l tt (when_among l tt (when_among l tt (grants_among l))) (runs.player s x b n)));
      finish = λ r d.
          (let l : List ℕ = 19 ∷ 11 ∷ 17 ∷ [] in
          check_says l _ (when_among l tt (when_among l tt (when_among l tt (grants_among l))) (runs.finish r d)));
      choose = λ r.
          (let l : List ℕ = 19 ∷ 13 ∷ 14 ∷ [] in
          says choice.Refused choice_outcome (λ w. refl) l _ (when_among l tt (when_among l tt (when_among l tt (grants_among l))) (runs.choose r)));
      ahead_of = λ x s.
          (let l : List ℕ = 7 ∷ 19 ∷ [] in spare_says l _ (when_among l tt (when_among l tt (grants_among l)) (runs.ahead_of x s)));
      stand = λ r. (let l : List ℕ = 19 ∷ [] in check_says l _ (when_among l tt (grants_among l) (runs.stand r)));
      slack_in = λ s. (let l : List ℕ = 19 ∷ 9 ∷ [] in spare_says l _ (when_among l tt (when_among l tt (grants_among l)) (runs.slack_in s)));
      workahead = λ r i.
          (let l : List ℕ = 19 ∷ 9 ∷ [] in spare_says l _ (when_among l tt (when_among l tt (grants_among l)) (runs.workahead r i)));
      slack = λ r. (let l : List ℕ = 19 ∷ 9 ∷ [] in spare_says l _ (when_among l tt (when_among l tt (grants_among l)) (runs.slack r)));
      start = λ r.
          (let l : List ℕ = 19 ∷ 18 ∷ 13 ∷ 9 ∷ 15 ∷ [] in
          check_says l _
          (when_among l tt (when_among l tt (when_among l tt (when_among l tt (when_among l tt (grants_among l))))) (runs.start r)));
    }
