-- The text by which a token ends at the exit of its start, as a message of that token.
use Rattle.std.proofs.Common.{◌≡◌, ℕ, Bool, true, false, ◌&&◌, ◌||◌, List, [], ◌∷◌, bytes_eq, codes, nat_eq, Some, refl, sym}
use Rattle.std.specs.List.{list_any}
use Rattle.std.proofs.lemmas.Bool.{and_parts}
use Rattle.json_text.specs.Named.{named}
use Rattle.rpc_message.specs.Message.{notification, text}
use Rattle.event_model.specs.Requests.{without}
use Rattle.session_laws.specs.Progress.{Creates, creates_told, token_at}
use Rattle.event_model.proofs.Frames.{never}
use Rattle.group_rows.specs.Created.{Created, Taking, created_mark, has_accepted, is_at}
use Rattle.group_rows.specs.ExitRows.{begun_at, has_begun}
use Rattle.group_rows.proofs.ExitTexts.{end_tree}
use Rattle.group_sessions.specs.Due.{names_mark}

pub end_names : (s k : ℕ) → token_at (codes "token") (Some (end_tree s k)) ≡ Some (text (created_mark s k))
unfolding named
end_names s k = refl

-- behind it the token is no more
pub end_told : (s k : ℕ) (x : Creates) → creates_told x (notification (codes "$/progress") (Some (end_tree s k))) ≡ record { asked = x.asked; created = without (Some (text (created_mark s k))) x.created }
unfolding named
end_told s k x = refl

pub end_marks : (s k n j : ℕ) → names_mark s k (notification (codes "$/progress") (Some (end_tree n j))) ≡ bytes_eq (created_mark s k) (created_mark n j)
unfolding named
end_marks s k n j = refl

-- What has begun there was accepted

pub weaker : {A : Type 0} (p q : A → Bool) → ((x : A) → p x ≡ true → q x ≡ true) → (xs : List A) → list_any p xs ≡ true → list_any q xs ≡ true
weaker p q f [] h = h
weaker p q f (x ∷ xs) h = go (λ z. weaker p q f xs z) (p x) refl h
  where
    or_last : (a b : Bool) → b ≡ true → (a || b) ≡ true
    or_last true b k = refl
    or_last false b k = k

    or_first : (a b : Bool) → a ≡ true → (a || b) ≡ true
    or_first true b k = refl
    or_first false b k = never (sym k)

    go : (list_any p xs ≡ true → list_any q xs ≡ true) → (b : Bool) → p x ≡ b → (b || list_any p xs) ≡ true → (q x || list_any q xs) ≡ true
    go rest true is k = or_first (q x) (list_any q xs) (f x is)
    go rest false is k = or_last (q x) (list_any q xs) (rest k)

pub begun_accepted : (e k : ℕ) (x : Created) → has_begun e k x ≡ true → has_accepted e k x ≡ true
begun_accepted e k x begun = weaker (begun_at e k) (λ (c : Taking). c.accepted && (is_at e c && nat_eq c.token k)) (λ c h. (and_parts c.begun (c.accepted && (is_at e c && nat_eq c.token k)) h).1) x.takings begun
