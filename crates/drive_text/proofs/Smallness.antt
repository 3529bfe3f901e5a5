-- The bodies of made inputs are short.
use Rattle.std.proofs.Common.{ℕ, zero, suc, ◌+◌, ◌%◌, ◌^◌, ◌<◌, ◌≤◌, List, [], ◌∷◌, ◌++◌, codes, length, decimal, arith, lit≤, length-append}
use Rattle.std.proofs.lemmas.Fmt.{length-decimal-le}
use Rattle.std.specs.List.{AllByRecursion}
use Rattle.mux_history.specs.Cores.{body_length}
use Rattle.mux_history.specs.declared.cause.Cause.{Cause}
use Rattle.mux_history.specs.declared.cause.Cause.TheVariants.{Started, FromServer}
use Rattle.drive_text.specs.declared.made.Greeting.{Greeting}
use Rattle.drive_text.specs.declared.made.Greeting.TheVariants as greeting
use Rattle.drive_text.specs.declared.made.Maker.{Maker}
use Rattle.drive_text.specs.declared.made.Turn.{Turn}
use Rattle.drive_text.specs.declared.made.Turn.TheVariants as turn
use Rattle.drive_text.specs.Made.{hover_body, null_body, full_body, result_body, greetings, opening, turn_causes, turn_at, turned, second, drawn, next_state, step_causes, state_after, turns, made}

abbrev IsSmall : Cause → Type 0
IsSmall cause = body_length cause ≤ 268435456

all_both : (xs ys : List Cause) → AllByRecursion IsSmall xs → AllByRecursion IsSmall ys → AllByRecursion IsSmall (xs ++ ys)
all_both [] ys h g = g
all_both (x ∷ xs) ys h g = (h.0, all_both xs ys h.1 g)

-- a number between two texts, and two numbers between three
around : (xs zs : List ℕ) (n : ℕ) → length xs ≤ 1000 → length zs ≤ 1000000 → n < 2 ^ 64 → length (xs ++ (decimal n ++ zs)) ≤ length zs + 1020
around xs zs n x z s =
    let a = length-append xs (decimal n ++ zs) in
    let b = length-append (decimal n) zs in
    let d = length-decimal-le 20 n (omega arith) (omega (arith, s)) s in
    omega (arith, a, b, d, x, z)

once : (xs zs : List ℕ) (n : ℕ) → length xs ≤ 1000 → length zs ≤ 1000 → n < 2 ^ 64 → length (xs ++ (decimal n ++ zs)) ≤ 268435456
once xs zs n x z s = let a = around xs zs n x (omega (arith, z)) s in omega (arith, a, z)

twice : (xs ys zs : List ℕ) (n m : ℕ) → length xs ≤ 1000 → length ys ≤ 1000 → length zs ≤ 1000 → n < 2 ^ 64 → m < 2 ^ 64
    → length (xs ++ (decimal n ++ (ys ++ (decimal m ++ zs)))) ≤ 268435456
twice xs ys zs n m x y z s t =
    let b = around ys zs m y (omega (arith, z)) t in
    let a = around xs (ys ++ (decimal m ++ zs)) n x (omega (arith, b, z)) s in
    omega (arith, a, b, z)

hover_small : (i : ℕ) → i < 2 ^ 64 → length (hover_body i) ≤ 268435456
hover_small i s = once (codes "{\"jsonrpc\":\"2.0\",\"id\":") (codes ",\"method\":\"textDocument/hover\",\"params\":{}}") i (lit≤ tt) (lit≤ tt) s

null_small : (n : ℕ) → n < 2 ^ 64 → length (null_body n) ≤ 268435456
null_small n s = once (codes "{\"jsonrpc\":\"2.0\",\"id\":") (codes ",\"result\":null}") n (lit≤ tt) (lit≤ tt) s

full_small : (i : ℕ) → i + 1 < 2 ^ 64 → length (full_body i) ≤ 268435456
full_small i s =
    twice (codes "{\"jsonrpc\":\"2.0\",\"method\":\"textDocument/didChange\",\"params\":{\"textDocument\":{\"uri\":\"file:///d\",\"version\":") (codes "},\"contentChanges\":[{\"text\":\"t") (codes "\"}]}}") (i + 1) i (lit≤ tt) (lit≤ tt) (lit≤ tt) s (omega (arith, s))

four_small : (g : Greeting) → AllByRecursion IsSmall (greetings g)
four_small greeting.Join = (lit≤ tt, (lit≤ tt, (lit≤ tt, (lit≤ tt, tt))))
four_small greeting.Initialize = (lit≤ tt, (lit≤ tt, (lit≤ tt, (lit≤ tt, tt))))
four_small greeting.Initialized = (lit≤ tt, (lit≤ tt, (lit≤ tt, (lit≤ tt, tt))))
four_small greeting.Open = (lit≤ tt, (lit≤ tt, (lit≤ tt, (lit≤ tt, tt))))

opening_small : AllByRecursion IsSmall opening
opening_small =
    let last = all_both (greetings greeting.Initialized) (greetings greeting.Open) (four_small greeting.Initialized) (four_small greeting.Open) in
    let rest : AllByRecursion IsSmall (Started 0 ∷ FromServer 0 result_body ∷ (greetings greeting.Initialized ++ greetings greeting.Open)) = (lit≤ tt, (lit≤ tt, last)) in
    all_both (greetings greeting.Join) (greetings greeting.Initialize ++ (Started 0 ∷ FromServer 0 result_body ∷ (greetings greeting.Initialized ++ greetings greeting.Open))) (four_small greeting.Join)
    (all_both (greetings greeting.Initialize) (Started 0 ∷ FromServer 0 result_body ∷ (greetings greeting.Initialized ++ greetings greeting.Open)) (four_small greeting.Initialize) rest)

turn_small : (i e : ℕ) (m : Maker) (t : Turn) → i < 2 ^ 32 → m.asked < 2 ^ 32 → AllByRecursion IsSmall (turn_causes i e m t)
turn_small i e m turn.Exit h k = (lit≤ tt, (lit≤ tt, (lit≤ tt, tt)))
turn_small i e m turn.Change h k = (full_small i (omega (arith, h)), tt)
turn_small i e m turn.Ask h k = (hover_small i (omega (arith, h)), tt)
turn_small i e m turn.AskAndAnswer h k = (hover_small i (omega (arith, h)), (null_small (m.asked + 2) (omega (arith, k)), tt))

-- no start was asked more often than there were turns
asked_more : (state : ℕ) (m : Maker) (t : Turn) → (turned state m t).asked ≤ m.asked + 1
asked_more state m turn.Exit = omega arith
asked_more state m turn.Change = omega arith
asked_more state m turn.Ask = omega arith
asked_more state m turn.AskAndAnswer = omega arith

asked_few : (seed i : ℕ) → (state_after seed i).asked ≤ i
unfolding state_after
asked_few seed zero = omega arith
asked_few seed (suc i) =
    let few = asked_few seed i in
    let more = asked_more (second (state_after seed i)) (state_after seed i) (turn_at (state_after seed i)) in
    omega (arith, few, more)

turns_small : (seed i : ℕ) → i < 2 ^ 32 → AllByRecursion IsSmall (turns seed i)
unfolding turns
turns_small seed zero h = tt
turns_small seed (suc i) h =
    let few = asked_few seed i in
    all_both (turns seed i) (step_causes (suc i) (state_after seed i)) (turns_small seed i (omega (arith, h)))
    (turn_small (suc i) (drawn (next_state (state_after seed i).state) % 4) (state_after seed i) (turn_at (state_after seed i)) h (omega (arith, few, h)))

pub made_small : (n seed : ℕ) → n < 2 ^ 32 → AllByRecursion IsSmall (made n seed)
made_small n seed h = all_both opening (turns seed n) opening_small (turns_small seed n h)
