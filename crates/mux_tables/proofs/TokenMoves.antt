-- What becomes of the tokens that starts created, where an event comes to the other tables.
use Rattle.std.proofs.Common.{◌≡◌, ℕ, Bool, true, false, not, cond, List, [], ◌∷◌, ◌++◌, codes, bytes_eq, refl, ap, sym, subst, ◌∙◌, nat_eq}
use Rattle.std.specs.List.Sorted.{IsStrictlySortedBy}
use Rattle.std.specs.Map.{keys_of}
use Rattle.std.specs.Ordering.{nat_cmp}
use Rattle.std.proofs.lemmas.Slice.Eq.{bytes_eq-Decides}
use Rattle.lsp_method.specs.Class.{class_of}
use Rattle.lsp_method.specs.declared.variants.Class.{Class}
use Rattle.lsp_method.specs.declared.variants.Class.TheVariants.{Lowest}
use Rattle.lsp_method.specs.declared.variants.Origin.TheVariants.{Server}
use Rattle.mux_history.specs.declared.cause.Cause.TheVariants.{FromEditor, FromServer}
use Rattle.mux_history.specs.declared.out.Out.TheVariants.{ToEditor}
use Rattle.rpc_message.specs.Message.{Message, request, notification}
use Rattle.event_model.specs.Event.{Event, did, requests, took}
use Rattle.event_model.specs.Settings.{Settings}
use Rattle.event_model.specs.Stages.{is_first_result}
use Rattle.event_model.proofs.Frames.{never}
use Rattle.group_words.specs.Houses.{is_first_error}
use Rattle.group_laws.specs.group_rows.specs.Asks.{is_patient, may_wait}
use Rattle.group_laws.specs.group_rows.specs.Created.{Created, answered, created_next, created_of, is_creating, left, names_create}
use Rattle.mux_tokens.specs.Rows.{Rows, left_each}
use Rattle.mux_tokens.specs.Stands.{CreatedStand, CreatedStay, TakesNone, TokensStay}
use Rattle.mux_tokens.proofs.Rows.{num_same}
use Rattle.mux_tokens.proofs.Standing.{left_moves, stay_stands}
use Rattle.mux_tokens.proofs.Stays.{passes_stay, takes_none}
use Rattle.mux_tables.specs.declared.tables.Origins.{Origins}
use Rattle.mux_tables.specs.declared.tables.Tables.{Tables}
use Rattle.mux_tables.specs.Stands.{is_answer, is_request}
use Rattle.mux_waits.specs.Rows.{Rows as Waits}
use Rattle.mux_waits.specs.Stands.{WaitingStand}

-- the tokens of all starts move
abbrev pub CreatedMove : Settings → Tables → Tables → List Event → Event → Type 0
CreatedMove settings t u events ev = CreatedStand settings t.origins.created events → CreatedStand settings u.origins.created (events ++ ev ∷ [])

-- and what waits in groups, or that stays
abbrev pub WaitsMove : Settings → Origins → Origins → List Event → Event → Type 0
WaitsMove settings o p events ev = WaitingStand settings o.waiting events → WaitingStand settings p.waiting (events ++ ev ∷ [])

abbrev pub WaitsStay : Settings → List Event → Event → Type 0
WaitsStay settings events ev = (rows : Waits) → WaitingStand settings rows events → WaitingStand settings rows (events ++ ev ∷ [])

pub same_waits : (settings : Settings) (o p : Origins) (events : List Event) (ev : Event) → p.waiting ≡ o.waiting → WaitsStay settings events ev → WaitsMove settings o p events ev
same_waits settings o p events ev is stays h = subst (λ (rows : Waits). WaitingStand settings rows (events ++ ev ∷ [])) (sym is) (stays o.waiting h)

pub record KeptMove (settings : Settings) (t u : Tables) (events : List Event) (ev : Event) : Type 0 where
  pub created : CreatedMove settings t u events ev
  pub waiting : WaitsMove settings t.origins u.origins events ev

-- and nothing else of what is kept of them beside the last ones of groups
pub record OriginsMove (settings : Settings) (o p : Origins) (events : List Event) (ev : Event) : Type 0 where
  pub groups : p.groups ≡ o.groups
  pub stopping : p.stopping ≡ o.stopping
  pub created : CreatedStand settings o.created events → CreatedStand settings p.created (events ++ ev ∷ [])
  pub waiting : WaitsMove settings o p events ev

pub same_created : (settings : Settings) (t u : Tables) (events : List Event) (ev : Event) → u.origins.created ≡ t.origins.created → TokensStay settings events ev → CreatedMove settings t u events ev
same_created settings t u events ev cr stays h = subst (λ (rows : Rows). CreatedStand settings rows (events ++ ev ∷ [])) (sym cr) (stay_stands settings t.origins.created events ev stays h)

pub origins_stay : (settings : Settings) (o p : Origins) (events : List Event) (ev : Event) → p ≡ o → TokensStay settings events ev → WaitsStay settings events ev → OriginsMove settings o p events ev
origins_stay settings o p events ev os stays waits = record {
  groups = ap (λ v. v.groups) os;
  stopping = ap (λ v. v.stopping) os;
  created = λ h. subst (λ (rows : Rows). CreatedStand settings rows (events ++ ev ∷ [])) (sym (ap (λ v. v.created) os)) (stay_stands settings o.created events ev stays h);
  waiting = same_waits settings o p events ev (ap (λ v. v.waiting) os) waits;
}

-- an editor leaves all starts
pub origins_left : (settings : Settings) (o p : Origins) (events : List Event) (ev : Event) (e : ℕ) → p.groups ≡ o.groups → p.stopping ≡ o.stopping → p.created ≡ left_each e (keys_of o.created) o.created → IsStrictlySortedBy nat_cmp (keys_of o.created)
    → ((s : ℕ) → created_next settings s events (created_of settings s events) ev ≡ left e (created_of settings s events)) → WaitsMove settings o p events ev → OriginsMove settings o p events ev
origins_left settings o p events ev e og sk cr sorted goes waits = record {
  groups = og;
  stopping = sk;
  created = λ h. subst (λ (rows : Rows). CreatedStand settings rows (events ++ ev ∷ [])) (sym cr) (left_moves settings o.created events ev e goes sorted h);
  waiting = waits;
}

-- A start's message

-- what is heard of one start leaves the tokens of others
pub heard_all : (settings : Settings) (s : ℕ) (events : List Event) (body : List ℕ) (m : Message) → CreatedStay settings s events (took (FromServer s body) m) → TokensStay settings events (took (FromServer s body) m)
heard_all settings s events body m mine n = go (nat_eq s n) refl
  where
    go : (b : Bool) → nat_eq s n ≡ b → CreatedStay settings n events (took (FromServer s body) m)
    go true is = subst (λ k. CreatedStay settings k events (took (FromServer s body) m)) (num_same s n is) mine
    go false is = passes_stay settings n events (created_of settings n events) (took (FromServer s body) m) (ap not is)

pub first_result_tokens : (settings : Settings) (s n : ℕ) (events : List Event) (x : Created) (body : List ℕ) (m : Message) → is_first_result m ≡ true → created_next settings s events x (took (FromServer n body) m) ≡ x
first_result_tokens settings s n events x body (request id method params) h = never (sym h)
first_result_tokens settings s n events x body (notification method params) h = never (sym h)
first_result_tokens settings s n events x body other h = refl

pub first_error_tokens : (settings : Settings) (s n : ℕ) (events : List Event) (x : Created) (body : List ℕ) (m : Message) → is_first_error m ≡ true → created_next settings s events x (took (FromServer n body) m) ≡ x
first_error_tokens settings s n events x body (request id method params) h = never (sym h)
first_error_tokens settings s n events x body (notification method params) h = never (sym h)
first_error_tokens settings s n events x body other h = refl

-- what may wait creates nothing
waiting_creates : (c : Class) → may_wait c ≡ true → names_create c ≡ false
waiting_creates Lowest h = refl
waiting_creates _ h = never (sym h)

pub patient_creates : (method : List ℕ) → is_patient method ≡ true → is_creating method ≡ false
patient_creates method h = waiting_creates (class_of method Server false) h

-- What an editor is sent

pub told_tokens : (settings : Settings) (s e : ℕ) (events : List Event) (x : Created) (body : List ℕ) (m : Message) → is_request m ≡ false → created_next settings s events x (did (ToEditor e body) m) ≡ x
told_tokens settings s e events x body (request id method params) h = never h
told_tokens settings s e events x body other h = refl

-- An editor's message

-- a request by another name isn't `shutdown`
pub not_shutdown : (name : List ℕ) (m : Message) → bytes_eq (codes "shutdown") name ≡ false → requests name m ≡ true → requests (codes "shutdown") m ≡ false
not_shutdown name (request id method params) off h = ap (bytes_eq (codes "shutdown")) (sym ((bytes_eq-Decides name method).0 h)) ∙ off
not_shutdown name rest off h = never (sym h)

asks_none : (name : List ℕ) (m : Message) → requests name m ≡ true → is_answer m ≡ false
asks_none name (request id method params) h = refl
asks_none name rest h = never (sym h)

pub request_takes : (settings : Settings) (e : ℕ) (name : List ℕ) (m : Message) (events : List Event) → bytes_eq (codes "shutdown") name ≡ false → requests name m ≡ true → TakesNone settings e m events
request_takes settings e name m events off h = takes_none settings e m events (not_shutdown name m off h) (asks_none name m h)

-- `shutdown`
pub shutdown_takes : (settings : Settings) (s e : ℕ) (events : List Event) (x : Created) (body : List ℕ) (m : Message) → requests (codes "shutdown") m ≡ true → created_next settings s events x (took (FromEditor e body) m) ≡ left e x
shutdown_takes settings s e events x body m h = ap (λ b. cond b (left e x) (answered e m x)) h
