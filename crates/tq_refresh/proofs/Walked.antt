-- The asks of one job. A walk over the servers of a set: what one step leaves of it. The servers of a plan's jobs are
-- of the tree of its sets, and a file whose stale servers are all down has no job.
use Rattle.std.proofs.Common.{◌≡◌, ℕ, List, [], ◌∷◌, ◌++◌, Bool, true, false, not, ◌==◌, ◌&&◌, cond, Option, Some, None, Ok, Err, refl, sym, ◌∙◌, ap, subst, append_assoc, ◌+◌, ◌<◌, ◌≤◌, length, drop, get_or, map, filter, find}
use Rattle.std.proofs.lemmas.{Grind.flat_map-append, List.{append-nil, drop_all, drop_more}, Option.none-some}
use Rattle.std.proofs.lemmas.List.Elements.{All-map, All-tail, All-append, All-filter, All-head, All-nil}
use Rattle.std.specs.{Prelude.{OnOk, Result, is_err}, List.{All, flat_map}, Option.option_map_or}
use Rattle.tq_asks.specs.declared.ask.{NodeAsk.NodeAsk, NodeAsk.TheVariants.Work, WorkAsk.TheVariants.Peek}
use Rattle.tq_asks.specs.declared.ask.NodeReply.{NodeReply}
use Rattle.tq_txn.specs.{Dialogue.{Told, Ends, Makes}, declared.asker.Exchange.Exchange}
use Rattle.tq_txn.specs.declared.asker.Exchange.TheVariants as exchanges
use Rattle.tq_txn_states.specs.declared.told.NodeTold.{NodeTold}
use Rattle.tq_refresh.specs.declared.{job.Job.Job, file_jobs.FileJobs.FileJobs}
use Rattle.tq_refresh.specs.Plan.{refresh_of, worker_asked, mend_asked, is_of_tree, refresh_asked, IsAnswered, Grows, IsPlanned, jobs_from, jobs_in, servers_in}
use Rattle.tq_shape.specs.{Tree.Server, ServerSet.{servers_of_numbers, Servers, has_number}}

-- the source did not take the ask
pub refused : (job : Job) (old new : List Exchange) → IsAnswered job.source.number (Work (Peek job.file)) None old new → Grows (worker_asked job) old new
refused job old new told =
    (exchanges.Node job.source.number (Work (Peek job.file)) (Err told.0) ∷ [], told.1, (Err told.0, [], refl, (refl, refl)))

both : (job : Job) (t : NodeTold) (ask : NodeAsk) (second : Told NodeReply) (old mid new : List Exchange) → IsAnswered job.source.number (Work (Peek job.file)) (Some t) old mid
    → refresh_of job t.number t.reply ≡ Some ask → new ≡ mid ++ exchanges.Node job.server.number ask second ∷ [] → Grows (worker_asked job) old new
both job t ask second old mid new told some taken =
    let answer : Told NodeReply = Ok (record { number = t.number; reply = t.reply }) in
    let one : Exchange = exchanges.Node job.source.number (Work (Peek job.file)) answer in
    let two : Exchange = exchanges.Node job.server.number ask second in (
      one ∷ two ∷ [],
      taken ∙ ap (λ (l : List Exchange). l ++ two ∷ []) told ∙ append_assoc old (one ∷ []) (two ∷ []),
      (answer, two ∷ [], refl, subst (λ (a : Option NodeAsk). Makes (mend_asked (λ (mended : Bool). tt) job a) (two ∷ []) tt) (sym some) (second, [], refl, (refl, refl))),
    )

-- it told one, and the server was asked to take it
pub mended : (job : Job) (t : NodeTold) (ask : NodeAsk) (second : Option NodeTold) (old mid new : List Exchange) → IsAnswered job.source.number (Work (Peek job.file)) (Some t) old mid
    → refresh_of job t.number t.reply ≡ Some ask → IsAnswered job.server.number ask second mid new → Grows (worker_asked job) old new
mended job t ask None old mid new told some taken = both job t ask (Err taken.0) old mid new told some taken.1
mended job t ask (Some s) old mid new told some taken = both job t ask (Ok (record { number = s.number; reply = s.reply })) old mid new told some taken

-- what holds where memory was not refused
pub not_refused : {A E : Type 0} (P : Type 0) (result : Result A E) → OnOk result P → is_err result ≡ false → P
not_refused P (Ok a) held none = held
not_refused P (Err e) held none = cc

both_hold : (a b : Bool) → false ≡ not a → false ≡ not b → a && b ≡ true
both_hold true true one two = refl
both_hold true false one two = cc
both_hold false b one two = cc

-- a job of the tree is not passed over
pub refreshed : (levels source server : ℕ) (job : Job) (old new : List Exchange) → source ≡ job.source.levels → server ≡ job.server.levels → false ≡ not (source == levels) → false ≡ not (server == levels)
    → Grows (worker_asked job) old new → Grows (refresh_asked levels job) old new
refreshed levels source server job old new is_source is_server one two grows =
    let here : is_of_tree levels job ≡ true =
    both_hold (job.source.levels == levels) (job.server.levels == levels) (one ∙ ap (λ (n : ℕ). not (n == levels)) is_source) (two ∙ ap (λ (n : ℕ). not (n == levels)) is_server) in
    subst (λ (b : Bool). Grows (cond b (worker_asked job) (Ends tt)) old new) (sym here) grows

-- ---- walked

-- the servers of a set are all of its tree
pub of_one_tree : (own levels : ℕ) (numbers : List ℕ) (servers : List Server) → servers ≡ servers_of_numbers own numbers → own ≡ levels → All (λ server. server.levels ≡ levels) servers
of_one_tree own levels numbers servers is same =
    subst (All (λ server. server.levels ≡ levels)) (sym is) (All-map (λ server. server.levels ≡ levels) (λ number. record { number = number; levels = own }) numbers (λ k d h. same))

-- and so are those that a step leaves
pub left_of_tree : (levels : ℕ) (before rest : List Server) (x : Server) → before ≡ x ∷ rest → All (λ server. server.levels ≡ levels) before → All (λ server. server.levels ≡ levels) rest
left_of_tree levels before rest x is all =
    All-tail (λ server. server.levels ≡ levels) x rest (subst (All (λ server. server.levels ≡ levels)) is all)

module _ {X : Type 0} (p : X → Bool) (before rest : List X) (x : X) (is : before ≡ x ∷ rest) where
  -- one that is not sought is passed over
  pub find-passed : (sought : Option X) → p x ≡ false → find p before ≡ sought → find p rest ≡ sought
  find-passed sought px so_far = sym (ap (λ b. cond b (Some x) (find p rest)) px) ∙ ap (find p) (sym is) ∙ so_far

  module _ {Y : Type 0} (f : X → Y) where
    -- one that a filter lets through comes first of those that are left
    pub walks-passes : p x ≡ true → map f (filter p before) ≡ f x ∷ map f (filter p rest)
    walks-passes px = ap (λ xs. map f (filter p xs)) is ∙ ap (λ b. map f (cond b (x ∷ filter p rest) (filter p rest))) px

    -- and one that it keeps back leaves all as it is
    pub walks-passed : p x ≡ false → map f (filter p before) ≡ map f (filter p rest)
    walks-passed px = ap (λ xs. map f (filter p xs)) is ∙ ap (λ b. map f (cond b (x ∷ filter p rest) (filter p rest))) px

    module _ (done total : List Y) where
      pub put-passes : (more : List Y) → more ≡ done ++ f x ∷ [] → p x ≡ true → done ++ map f (filter p before) ≡ total → more ++ map f (filter p rest) ≡ total
      put-passes more put px so_far =
          ap (λ ys. ys ++ map f (filter p rest)) put ∙ append_assoc done (f x ∷ []) (map f (filter p rest))
          ∙ ap (λ ys. done ++ ys) (sym (walks-passes px)) ∙ so_far

      pub put-passed : p x ≡ false → done ++ map f (filter p before) ≡ total → done ++ map f (filter p rest) ≡ total
      put-passed px so_far = ap (λ ys. done ++ ys) (sym (walks-passed px)) ∙ so_far

-- a walk over rows that gathers what some of them come to: `made` is what each gathered one makes, `makes` what each row does
module _ {X Y Z : Type 0} (made : X → List Z) (makes : Y → List Z) (rows : List Y) (i : ℕ) (row : Y) (less : i < length rows) (item : row ≡ get_or rows i row)
    (done new : List X) (found : Option X) (came : option_map_or made found [] ≡ makes row) (so_far : flat_map made done ++ flat_map makes (drop i rows) ≡ flat_map makes rows) where
  left : drop i rows ≡ row ∷ drop (i + 1) rows
  left = drop_more rows i row less ∙ ap (λ y. y ∷ drop (i + 1) rows) (sym item)

  -- one more is gathered
  pub one_gathered : (x : X) → found ≡ Some x → new ≡ done ++ x ∷ [] → flat_map made new ++ flat_map makes (drop (i + 1) rows) ≡ flat_map makes rows
  one_gathered x is put =
      let rest = flat_map makes (drop (i + 1) rows) in
      ap (λ xs. flat_map made xs ++ rest) put ∙ ap (λ zs. zs ++ rest) (flat_map-append made done (x ∷ []) ∙ ap (λ zs. flat_map made done ++ zs) (append-nil (made x)))
      ∙ append_assoc (flat_map made done) (made x) rest
      ∙ ap (λ zs. flat_map made done ++ (zs ++ rest)) (sym (ap (λ (o : Option X). option_map_or made o []) is) ∙ came)
      ∙ ap (λ ys. flat_map made done ++ flat_map makes ys) (sym left) ∙ so_far

  -- none is, where the row comes to nothing
  pub none_gathered : found ≡ None → new ≡ done → flat_map made new ++ flat_map makes (drop (i + 1) rows) ≡ flat_map makes rows
  none_gathered is stays =
      let rest = flat_map makes (drop (i + 1) rows) in
      ap (λ xs. flat_map made xs ++ rest) stays
      ∙ ap (λ zs. flat_map made done ++ (zs ++ rest)) (sym (ap (λ (o : Option X). option_map_or made o []) is) ∙ came)
      ∙ ap (λ ys. flat_map made done ++ flat_map makes ys) (sym left) ∙ so_far

-- where no row is left, what was gathered is what all come to
pub all_walked : {Y Z : Type 0} (makes : Y → List Z) (rows : List Y) (i : ℕ) (done : List Z) → length rows ≤ i → done ++ flat_map makes (drop i rows) ≡ flat_map makes rows → done ≡ flat_map makes rows
all_walked makes rows i done all so_far =
    sym (append-nil done) ∙ ap (λ rest. done ++ flat_map makes rest) (sym (drop_all i rows all)) ∙ so_far

-- ---- planned

-- where none is found none passes
pub none-passes : {X : Type 0} (p : X → Bool) (xs : List X) → None ≡ find p xs → filter p xs ≡ []
none-passes p [] none = refl
none-passes {X = X} p (x ∷ xs) none = by (p x) (none-passes p xs) none
  where
    by : (b : Bool) → (None ≡ find p xs → filter p xs ≡ []) → None ≡ cond b (Some x) (find p xs) → cond b (x ∷ filter p xs) (filter p xs) ≡ []
    by true more found = absurd (none-some x found)
    by false more found = more found

-- so there is no job, wherever the copies may be taken from
pub no-jobs : (file : List ℕ) (p : Server → Bool) (stale : List Server) (source : Option Server) → None ≡ find p stale → [] ≡ jobs_from file (filter p stale) source
no-jobs file p stale None none = refl
no-jobs file p stale (Some source) none =
    let job : Server → Job = λ server. record { file = file; server = server; source = source } in
    sym (ap (map job) (none-passes p stale none))

module _ (levels : ℕ) (up : Servers) where
  abbrev IsJobOfTree : Job → Type 0
  IsJobOfTree job = (job.server.levels ≡ levels) × (job.source.levels ≡ levels)

  jobs_in-of_tree : (f : FileJobs) → IsPlanned levels f → All IsJobOfTree (jobs_in up f)
  jobs_in-of_tree f planned =
      let IsOfTree : Server → Type 0 = λ server. server.levels ≡ levels in
      let has = λ (server : Server). has_number up.numbers server.number in
      let stale = of_one_tree f.stale.levels levels f.stale.numbers (servers_in f.stale) refl planned.0 in
      let all = All-filter has IsOfTree (servers_in f.stale) stale in
      All-map IsJobOfTree (λ server. record { file = f.file; server = server; source = f.source }) (filter has (servers_in f.stale)) (λ k d h. (all k d h, planned.1))

  pub jobs-of_tree : (files : List FileJobs) → All (IsPlanned levels) files → All IsJobOfTree (flat_map (jobs_in up) files)
  jobs-of_tree [] all = All-nil IsJobOfTree
  jobs-of_tree (f ∷ files) all =
      All-append IsJobOfTree (jobs_in up f) (flat_map (jobs_in up) files)
      (jobs_in-of_tree f (All-head (IsPlanned levels) f files all))
      (jobs-of_tree files (All-tail (IsPlanned levels) f files all))
