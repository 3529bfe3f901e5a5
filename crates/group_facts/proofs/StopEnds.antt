-- E6: all groups end, each of which lives no more, behind outs to editors alone.
use Rattle.std.proofs.Common.{◌≡◌, ℕ, zero, suc, ◌<◌, ◌^◌, Bool, true, false, cond, List, [], ◌∷◌, ◌++◌, nat_eq, codes, if◌then◌else◌, Option, None, Some, refl, sym, ◌∙◌, ap, subst, append-nil}
use Rattle.std.proofs.lemmas.List.Elements.{filter-append}
use Rattle.mux_history.specs.declared.cause.Cause.{Cause}
use Rattle.mux_history.specs.declared.out.Out.{Out}
use Rattle.mux_history.specs.declared.out.Out.TheVariants.{ToEditor, ToServer, Spawn, CloseEditor, EndServer}
use Rattle.rpc_message.specs.Message.{message_of}
use Rattle.rpc_message.specs.Texts.{request_text}
use Rattle.event_model.specs.declared.stage.Stage.{Stage}
use Rattle.event_model.specs.declared.stage.Stage.TheVariants.{Spawning, Initializing, Ready}
use Rattle.event_model.specs.Event.{Event, behind, requests, said}
use Rattle.event_model.specs.Parts.{is_of_server, server_part}
use Rattle.event_model.specs.Requests.{next_number}
use Rattle.event_model.specs.Row.{each, nothing, on, outs}
use Rattle.event_model.specs.Settings.{Settings}
use Rattle.event_model.specs.Spawns.{start_of}
use Rattle.event_model.specs.Stages.{Life, life_of, stage_ending, stage_told}
use Rattle.event_model.proofs.Frames.{never}
use Rattle.mux_facts.proofs.Folds.{life_more, number_more}
use Rattle.mux_facts.proofs.Keeps.{behind_nothing}
use Rattle.mux_facts.proofs.Reasons.{Because, by_look, by_nothing, by_on, by_then}
use Rattle.group_words.specs.declared.kept.Kept.{Kept}
use Rattle.group_words.specs.Houses.{emptied, groups_of, home_of}
use Rattle.group_words.specs.Placing.{end_where, ended, is_live}
use Rattle.group_words.specs.Rows.{end_group, end_start}
use Rattle.group_words.proofs.Frames.{groups_more, groups_stay}
use Rattle.group_facts.specs.Facts.{Bounded}
use Rattle.group_facts.specs.Lively.{lives_at}
use Rattle.group_facts.specs.Why.{Why, moves}
use Rattle.group_facts.proofs.GroupEnds.{Untouched, low, shutdown_says, start_ends}
use Rattle.group_facts.proofs.LiveGroups.{lives_emptied}
use Rattle.group_facts.proofs.Numbers.{number_other}
use Rattle.group_facts.proofs.TickRow.{ending_not, told_not}

-- behind the end of all none lives
pub over_all : (g : ℕ) (xs : List Kept) → lives_at g (end_where is_live xs) ≡ false
over_all g [] = refl
over_all zero (x ∷ xs) = go x.live refl
  where
    go : (b : Bool) → x.live ≡ b → (if b then ended x else x).live ≡ false
    go true live = refl
    go false over = over
over_all (suc g) (x ∷ xs) = over_all g xs

-- an out to an editor, or the end of its link
abbrev pub IsOnLink : Out → Type 0
IsOnLink (ToEditor e text) = Unit {0}
IsOnLink (CloseEditor e) = Unit {0}
IsOnLink other = ⊥

module _ (settings : Settings) (range : settings.limits.requests < 2 ^ 32) (before : List Event) (cause : Cause) (stays : (s : ℕ) → moves before cause s ≡ false) (bounded : Bounded settings before) where
  abbrev R : List Event → Out → Type 0
  R events out = Why settings before cause events out

  abbrev Clean : List Event → ℕ → Type 0
  Clean events s = Untouched settings range before cause stays bounded events s

  pub record AllOver (events : List Event) : Type 0 where
    pub over : (g : ℕ) → lives_at g (groups_of settings events) ≡ false
    pub untouched : (s : ℕ) → (life_of s events).stage ≡ Ready → Clean events s

  -- An out further

  part_apart : (events : List Event) (out : Out) (s : ℕ) → is_of_server s (said out) ≡ false → server_part s (events ++ said out ∷ []) ≡ server_part s events
  part_apart events out s other = filter-append (is_of_server s) events (said out ∷ []) ∙ ap (λ b. server_part s events ++ cond b (said out ∷ []) []) other ∙ append-nil (server_part s events)

  clean_apart : (events : List Event) (out : Out) (s : ℕ) → (life_of s (events ++ said out ∷ [])).stage ≡ (life_of s events).stage → next_number s (events ++ said out ∷ []) ≡ next_number s events → is_of_server s (said out) ≡ false
      → ((life_of s events).stage ≡ Ready → Clean events s) → (life_of s (events ++ said out ∷ [])).stage ≡ Ready → Clean (events ++ said out ∷ []) s
  clean_apart events out s stage number other f ready = let c : Clean events s = f (sym stage ∙ ready) in record { stood = c.stood; number = number ∙ c.number; part = part_apart events out s other ∙ c.part }

  over_told : (e : ℕ) (text : List ℕ) (events : List Event) → AllOver events → AllOver (events ++ said (ToEditor e text) ∷ [])
  over_told e text events k = record {
    over = λ g. ap (lives_at g) (groups_stay settings events (said (ToEditor e text)) refl) ∙ k.over g;
    untouched = λ s. clean_apart events (ToEditor e text) s (ap (λ (l : Life). l.stage) (life_more s events (said (ToEditor e text)))) (number_more s events (said (ToEditor e text))) refl (k.untouched s);
  }

  over_closed : (e : ℕ) (events : List Event) → AllOver events → AllOver (events ++ said (CloseEditor e) ∷ [])
  over_closed e events k = record {
    over = λ g. ap (lives_at g) (groups_more settings events (said (CloseEditor e))) ∙ still g (home_of settings e events) _ _ _;
    untouched = λ s. clean_apart events (CloseEditor e) s (ap (λ (l : Life). l.stage) (life_more s events (said (CloseEditor e)))) (number_more s events (said (CloseEditor e))) refl (k.untouched s);
  }
    where
      still : (g : ℕ) (home : Option ℕ) (was : Bool) (left : ℕ → Bool) (time : ℕ) → lives_at g (emptied home was left time (groups_of settings events)) ≡ false
      still g home was left time = go (lives_at g (emptied home was left time (groups_of settings events))) refl
        where
          go : (b : Bool) → lives_at g (emptied home was left time (groups_of settings events)) ≡ b → b ≡ false
          go true live = never (sym (lives_emptied home was left time g (groups_of settings events) live) ∙ k.over g)
          go false over = refl

  over_sent : (n : ℕ) (text : List ℕ) (events : List Event) → requests (codes "shutdown") (message_of text) ≡ true → AllOver events → AllOver (events ++ said (ToServer n text) ∷ [])
  over_sent n text events asks k = record { over = λ g. ap (lives_at g) (groups_stay settings events (said (ToServer n text)) refl) ∙ k.over g; untouched = λ s. go s (nat_eq n s) refl }
    where
      stage_by : (s : ℕ) (b : Bool) → nat_eq n s ≡ b → (life_of s (events ++ said (ToServer n text) ∷ [])).stage ≡ (if b then record { stage = stage_told (life_of s events).stage (message_of text); started = (life_of s events).started } else life_of s events).stage
      stage_by s b same = ap (λ (l : Life). l.stage) (life_more s events (said (ToServer n text)))
          ∙ ap (λ c. (if c then record { stage = stage_told (life_of s events).stage (message_of text); started = (life_of s events).started } else life_of s events).stage) same

      go : (s : ℕ) (b : Bool) → nat_eq n s ≡ b → (life_of s (events ++ said (ToServer n text) ∷ [])).stage ≡ Ready → Clean (events ++ said (ToServer n text) ∷ []) s
      go s true same ready = absurd (told_not (life_of s events).stage (message_of text) asks (sym (stage_by s true same) ∙ ready))
      go s false other ready = clean_apart events (ToServer n text) s (stage_by s false other) (number_other settings events n text s other) other (k.untouched s) ready

  over_ended : (n : ℕ) (events : List Event) → AllOver events → AllOver (events ++ said (EndServer n) ∷ [])
  over_ended n events k = record { over = λ g. ap (lives_at g) (groups_stay settings events (said (EndServer n)) refl) ∙ k.over g; untouched = λ s. go s (nat_eq n s) refl }
    where
      stage_by : (s : ℕ) (b : Bool) → nat_eq n s ≡ b → (life_of s (events ++ said (EndServer n) ∷ [])).stage ≡ (if b then record { stage = stage_ending (life_of s events).stage; started = (life_of s events).started } else life_of s events).stage
      stage_by s b same = ap (λ (l : Life). l.stage) (life_more s events (said (EndServer n)))
          ∙ ap (λ c. (if c then record { stage = stage_ending (life_of s events).stage; started = (life_of s events).started } else life_of s events).stage) same

      go : (s : ℕ) (b : Bool) → nat_eq n s ≡ b → (life_of s (events ++ said (EndServer n) ∷ [])).stage ≡ Ready → Clean (events ++ said (EndServer n) ∷ []) s
      go s true same ready = absurd (ending_not (life_of s events).stage (sym (stage_by s true same) ∙ ready))
      go s false other ready = clean_apart events (EndServer n) s (stage_by s false other) (number_more s events (said (EndServer n))) other (k.untouched s) ready

  pub over_linked : (events : List Event) (out : Out) → IsOnLink out → AllOver events → AllOver (events ++ said out ∷ [])
  over_linked events (ToEditor e text) is k = over_told e text events k
  over_linked events (CloseEditor e) is k = over_closed e events k
  over_linked events (ToServer n text) is k = absurd is
  over_linked events (Spawn n g) is k = absurd is
  over_linked events (EndServer n) is k = absurd is

  -- Group by group

  start_over : (s : ℕ) (stage : Stage) (events : List Event) → (life_of s events).stage ≡ stage → AllOver events → AllOver (behind events (outs (end_start s stage) events))
  start_over s Ready events at k = over_sent s (request_text (next_number s events) (codes "shutdown") None) events
      (ap (requests (codes "shutdown")) (shutdown_says (next_number s events) (low settings range before cause stays bounded events s (k.untouched s at)))) k
  start_over s Spawning events at k = over_ended s events k
  start_over s Initializing events at k = over_ended s events k
  start_over s other events at k = subst AllOver (sym (behind_nothing events)) k

  group_over : (g : ℕ) (events : List Event) → AllOver events → AllOver (behind events (outs (end_group g) events))
  group_over g events k = go (start_of g events)
    where
      go : (o : Option ℕ) → AllOver (behind events (outs (on o nothing (λ s. end_start s (life_of s events).stage)) events))
      go None = subst AllOver (sym (behind_nothing events)) k
      go (Some s) = start_over s (life_of s events).stage events refl k

  pub all_end : (gs : List ℕ) (events : List Event) → AllOver events → Because R events (each end_group gs)
  all_end [] events k = by_nothing
  all_end (g ∷ gs) events k = by_then (by_look (by_on (λ none. by_nothing) (λ s start. start_ends settings range before cause stays bounded events s (life_of s events).stage
      (record { group = g; last = start; over = k.over g }) refl (k.untouched s)))) (all_end gs (behind events (outs (end_group g) events)) (group_over g events k))
