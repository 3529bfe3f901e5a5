-- S8 and L2: the daemon's create of a live token is an offer of it, and of no other start's.
use Rattle.std.proofs.Common.{◌≡◌, ℕ, ◌^◌, ◌<◌, ◌≤◌, Bool, true, false, cond, List, [], ◌∷◌, bytes_eq, codes, find, nat_eq, nat_lt, refl, sym, subst, ◌∙◌, ap, ltb-true, arith}
use Rattle.std.specs.Prelude.{Option, None, Some}
use Rattle.std.specs.List.{AllByRecursion}
use Rattle.std.proofs.lemmas.Bool.Decides.{nat_tests}
use Rattle.std.proofs.lemmas.Slice.Eq.{bytes_eq-Decides}
use Rattle.json_text.specs.Named.{named}
use Rattle.lsp_method.specs.Class.{server_request}
use Rattle.mux_history.specs.declared.cause.Cause.{Cause}
use Rattle.mux_history.specs.declared.out.Out.{Out}
use Rattle.event_model.specs.Event.{Event, behind, with_cause}
use Rattle.event_model.specs.Members.{named_of}
use Rattle.event_model.specs.Settings.{Settings}
use Rattle.event_model.specs.Spawns.{starts_of}
use Rattle.event_model.proofs.Frames.{never}
use Rattle.group_facts.specs.Facts.{NoStarts}
use Rattle.group_facts.specs.Settled.{Settled}
use Rattle.group_facts.proofs.Marks.{mark_number, mark_start, marked_same}
use Rattle.group_facts.proofs.Takings.{uncreated_heard}
use Rattle.group_facts.specs.group_rows.specs.Asks.{has_number, next_ask}
use Rattle.group_facts.specs.group_rows.specs.Created.{Created, Token, created_mark, created_of, is_creating, is_marked, is_numbered}
use Rattle.group_facts.specs.group_rows.specs.CreatedRows.{create_text}
use Rattle.group_facts.specs.group_rows.proofs.CreatedKept.{IsWritten, found_one, tokens_written}
use Rattle.group_facts.specs.group_rows.proofs.CreatedTexts.{create_says, create_tree}
use Rattle.mux_tables.specs.declared.tables.Tables.{Tables}
use Rattle.mux_tables.specs.Stands.{Stands, of_life}
use Rattle.mux_tables.specs.mux_tokens.specs.Stands.{AreFresh, IsOffer}
use Rattle.mux_turns.specs.Creates.{AreSmall}
use Rattle.mux_tables.specs.mux_tokens.proofs.Finding.{find_none, find_passes}
use Rattle.mux_tables.specs.mux_tokens.proofs.Fresh.{tokens_behind}

-- as many starts were spawned as numerals tell apart, and one that wasn't spawned yet is as one that never was
pub few_starts : (settings : Settings) (t : Tables) (events : List Event) → Stands settings t events → starts_of events ≤ 2 ^ 64
few_starts settings t events st = few t.origins.groups.ok.0 t.origins.groups.ok.1 t.origins.groups.small st.origins.count
  where
    few : {n l len cap : ℕ} → len ≡ l → len ≤ cap → cap < 2 ^ 63 → n ≡ l → n ≤ 2 ^ 64
    few is most small count = omega (arith, is, most, small, count)

pub no_starts : (settings : Settings) (t : Tables) (events : List Event) → Stands settings t events → NoStarts events
no_starts settings t events st s past = st.lasts.fresh s past of_life

pub small_heard : (settings : Settings) (before : List Event) → NoStarts before → Settled settings before → starts_of before ≤ 2 ^ 64 → (cause : Cause) → AreSmall settings (with_cause before cause)
small_heard settings before starts settled few cause n le = ap (λ (x : Created). x.tokens) (uncreated_heard settings before starts cause settled.uncreated n (omega (arith, few, le)))

pub small_behind : (settings : Settings) (events : List Event) (outs : List Out) → AreSmall settings events → AreSmall settings (behind events outs)
small_behind settings events outs h n le = tokens_behind settings n events outs ∙ h n le

creates_so : is_creating (codes "window/workDoneProgress/create") ≡ true
unfolding server_request
creates_so = refl

-- it names the daemon's own token
marked_is : (s k : ℕ) (u : Token) → is_marked s (named_of (codes "token") (Some (create_tree s k))) u ≡ bytes_eq (created_mark s u.number) (created_mark s k)
unfolding named
marked_is s k u = refl

module _ (settings : Settings) (s e k : ℕ) (events : List Event) (t : Token) (small : AreSmall settings events) (found : find (is_numbered k) (created_of settings s events).tokens ≡ Some t) where
  abbrev live : ℕ → List Token
  live n = (created_of settings n events).tokens

  -- what it names
  abbrev marked : ℕ → Token → Bool
  marked n = is_marked n (named_of (codes "token") (Some (create_tree s k)))

  pub number : t.number ≡ k
  number = let same : nat_eq t.number k ≡ true = find_passes (is_numbered k) (live s) t found in grind (arith, nat_tests)

  low : k < 2 ^ 64
  low = subst (λ n. n < 2 ^ 64) number (found_one IsWritten (is_numbered k) t (live s) (tokens_written settings s events) found).small

  spawned : s < 2 ^ 64
  spawned = within (λ le. absent (ap (find (is_numbered k)) (small s le)))
    where
      absent : find (is_numbered k) (live s) ≡ None → ⊥
      absent h = let clash : ◌≡◌ {A = Option Token} None (Some t) = sym h ∙ found in cc

      within : (2 ^ 64 ≤ s → ⊥) → s < 2 ^ 64
      within f = omega (arith, f)

  -- at its start the token of the number
  numbered : (u : Token) → u.number < 2 ^ 64 → marked s u ≡ is_numbered k u
  numbered u less = marked_is s k u ∙ go (nat_eq u.number k) refl (bytes_eq (created_mark s u.number) (created_mark s k)) refl
    where
      go : (b : Bool) → nat_eq u.number k ≡ b → (c : Bool) → bytes_eq (created_mark s u.number) (created_mark s k) ≡ c → c ≡ b
      go true same true is = refl
      go false other false off = refl
      go true same false off = let is : u.number ≡ k = grind (arith, nat_tests) in never (sym ((bytes_eq-Decides (created_mark s u.number) (created_mark s k)).1 (ap (created_mark s) is)) ∙ off)
      go false other true is = let same : u.number ≡ k = mark_number s u.number s k less low ((bytes_eq-Decides (created_mark s u.number) (created_mark s k)).0 is) in
          let here : nat_eq u.number k ≡ true = grind (arith, nat_tests) in never (sym here ∙ other)

  same_found : (ts : List Token) → AllByRecursion IsWritten ts → find (marked s) ts ≡ find (is_numbered k) ts
  same_found [] h = refl
  same_found (u ∷ ts) h = ap (λ b. cond b (Some u) (find (marked s) ts)) (numbered u h.0.small) ∙ ap (λ o. cond (is_numbered k u) (Some u) o) (same_found ts h.1)

  -- and at no other one
  unmarked : (n : ℕ) → n < 2 ^ 64 → nat_eq n s ≡ false → (u : Token) → marked n u ≡ false
  unmarked n less away u = go (marked n u) refl
    where
      go : (b : Bool) → marked n u ≡ b → b ≡ false
      go true is = let same : n ≡ s = mark_start n u.number s k less spawned (marked_same n s k u is) in
          let here : nat_eq n s ≡ true = grind (arith, nat_tests) in never (sym here ∙ away)
      go false off = refl

  all_unmarked : (n : ℕ) → n < 2 ^ 64 → nat_eq n s ≡ false → (ts : List Token) → AllByRecursion (λ (u : Token). marked n u ≡ false) ts
  all_unmarked n less away [] = tt
  all_unmarked n less away (u ∷ ts) = (unmarked n less away u, all_unmarked n less away ts)

  elsewhere : (n : ℕ) → nat_eq n s ≡ false → find (marked n) (live n) ≡ None
  elsewhere n away = go (nat_lt n (2 ^ 64)) refl
    where
      go : (b : Bool) → nat_lt n (2 ^ 64) ≡ b → find (marked n) (live n) ≡ None
      go true less = find_none (marked n) (live n) (all_unmarked n (ltb-true n (2 ^ 64) less) away (live n))
      go false far = ap (find (marked n)) (small n (let le : 2 ^ 64 ≤ n = grind (arith, nat_tests) in le))

  pub offer_is : has_number e events ≡ true → AreFresh e (next_ask e events) k (created_of settings s events).takings → IsOffer settings s e k events (create_text s k (next_ask e events))
  offer_is room fresh = let less : next_ask e events < 2 ^ 64 = ltb-true (next_ask e events) (2 ^ 64) room in record {
    method = codes "window/workDoneProgress/create";
    params = Some (create_tree s k);
    token = t;
    says = create_says s k (next_ask e events) (omega (arith, less));
    creates = creates_so;
    number = number;
    marked = same_found (live s) (tokens_written settings s events) ∙ found;
    live = found;
    others = elsewhere;
    fresh = fresh;
  }
