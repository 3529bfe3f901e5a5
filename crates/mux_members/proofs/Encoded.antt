-- Characters and their UTF-8 are equal to an ASCII text at once.
use Rattle.std.proofs.Common.{◌≡◌, ℕ, ◌+◌, ◌/◌, ◌%◌, ◌<◌, ◌≤◌, Bool, true, false, ◌&&◌, ◌||◌, List, [], ◌∷◌, ◌++◌, codes, ◌⊎◌, inl, inr, refl, sym, ◌∙◌, ap, ap₂, arith}
use Rattle.std.specs.Prelude.{suc, length, take, bytes_eq, nat_eq, nat_lt, encode_utf8_all, chars, is_some, unwrap_or, if◌then◌else◌}
use Rattle.std.proofs.lemmas.Bool.{cases_lt}
use Rattle.std.proofs.lemmas.Bool.Decides.{nat_tests}
use Rattle.std.proofs.lemmas.Str.{chars-IsAscii}
use Rattle.std.proofs.lemmas.Str.Ascii.{IsAscii-from_all}
use Rattle.std.specs.List.{All}
use Rattle.std.proofs.lemmas.List.Sums.{AllPass-from_list_all}
use lib.Utf8.{encode, encodes}
use Rattle.json_nodes.specs.json_token.proofs.Encoded.{one, two, three, four}
use Rattle.lsp_method.specs.Class.{editor_notification, editor_request, goes_nowhere, is_focused, is_refresh, own_notification, own_request, server_notification, server_request}
use Rattle.lsp_method.specs.declared.variants.Class.TheVariants.{Wrong, Other, Dropped}
use Rattle.mux_model.specs.Methods.{is_dollar}
use Rattle.mux_members.specs.Finds.{is_ascii}

ascii_all : (bs : List ℕ) → is_ascii bs ≡ true → All (λ b. b < 128) bs
ascii_all bs h = λ k d l. (let p = AllPass-from_list_all (λ b. nat_lt b 128) bs h k d l in grind (arith, nat_tests))

pub ascii_chars : (bs : List ℕ) → is_ascii bs ≡ true → chars bs ≡ bs
ascii_chars bs h = chars-IsAscii bs (IsAscii-from_all bs (ascii_all bs h))

-- a character past ASCII begins with a byte past it
lead : (c : ℕ) → 128 ≤ c → (a : ℕ) × (more : List ℕ) × (encode c ≡ a ∷ more) × (128 ≤ a)
lead c h = go (cases_lt c 2048) (cases_lt c 65536)
  where
    go : (c < 2048) ⊎ (2048 ≤ c) → (c < 65536) ⊎ (65536 ≤ c) → (a : ℕ) × (more : List ℕ) × (encode c ≡ a ∷ more) × (128 ≤ a)
    go (inl l) m = (192 + c / 64, (128 + c % 64) ∷ [], two c h l, omega arith)
    go (inr l) (inl m) = (224 + c / 4096, (128 + c / 64 % 64) ∷ (128 + c % 64) ∷ [], three c l m, omega arith)
    go (inr l) (inr m) = (240 + c / 262144, (128 + c / 4096 % 64) ∷ (128 + c / 64 % 64) ∷ (128 + c % 64) ∷ [], four c m, omega arith)

apart : (a c n : ℕ) (xs ys ns : List ℕ) → 128 ≤ a → 128 ≤ c → n < 128 → bytes_eq (a ∷ xs) (n ∷ ns) ≡ bytes_eq (c ∷ ys) (n ∷ ns)
apart a c n xs ys ns h k l =
    let e : nat_eq a n ≡ false = grind (arith, nat_tests) in
    let f : nat_eq c n ≡ false = grind (arith, nat_tests) in
    ap (λ b. b && bytes_eq xs ns) e ∙ sym (ap (λ b. b && bytes_eq ys ns) f)

differ : (n c : ℕ) → n < 128 → 128 ≤ c → nat_eq n c ≡ false
differ n c l h = grind (arith, nat_tests)

head_ascii : (n : ℕ) (ns : List ℕ) → is_ascii (n ∷ ns) ≡ true → n < 128
head_ascii n ns h = ascii_all (n ∷ ns) h 0 0 (omega arith)

tail_ascii : (n : ℕ) (ns : List ℕ) → is_ascii (n ∷ ns) ≡ true → is_ascii ns ≡ true
tail_ascii n ns h = go (nat_lt n 128) h
  where
    go : (b : Bool) → (b && is_ascii ns) ≡ true → is_ascii ns ≡ true
    go true h = h
    go false h = absurd (cc)

pub ascii_encoded : (cs name : List ℕ) → is_ascii name ≡ true → bytes_eq (encode_utf8_all cs) name ≡ bytes_eq cs name
ascii_encoded [] name h = refl
ascii_encoded (c ∷ cs) [] h = go (cases_lt c 128)
  where
    go : (c < 128) ⊎ (128 ≤ c) → bytes_eq (encode c ++ encodes cs) [] ≡ false
    go (inl l) = ap (λ xs. bytes_eq (xs ++ encodes cs) []) (one c l)
    go (inr l) = ap (λ xs. bytes_eq (xs ++ encodes cs) []) (lead c l).2
ascii_encoded (c ∷ cs) (n ∷ ns) h = go (ascii_encoded cs ns (tail_ascii n ns h)) (cases_lt c 128)
  where
    go : bytes_eq (encodes cs) ns ≡ bytes_eq cs ns → (c < 128) ⊎ (128 ≤ c) → bytes_eq (encode c ++ encodes cs) (n ∷ ns) ≡ bytes_eq (c ∷ cs) (n ∷ ns)
    go same (inl l) = ap (λ xs. bytes_eq (xs ++ encodes cs) (n ∷ ns)) (one c l) ∙ ap (λ b. nat_eq c n && b) same
    go same (inr l) =
        let k : (a : ℕ) × (more : List ℕ) × (encode c ≡ a ∷ more) × (128 ≤ a) = lead c l in
        ap (λ xs. bytes_eq (xs ++ encodes cs) (n ∷ ns)) k.2 ∙ apart k.0 c n (k.1 ++ encodes cs) cs ns k.3 l (head_ascii n ns h)

-- and begin with one at once
pub ascii_fronted : (name cs : List ℕ) → is_ascii name ≡ true → bytes_eq name (take (length name) (encode_utf8_all cs)) ≡ bytes_eq name (take (length name) cs)
ascii_fronted [] cs h = refl
ascii_fronted (n ∷ ns) [] h = refl
ascii_fronted (n ∷ ns) (c ∷ cs) h = go (ascii_fronted ns cs (tail_ascii n ns h)) (cases_lt c 128)
  where
    go : bytes_eq ns (take (length ns) (encodes cs)) ≡ bytes_eq ns (take (length ns) cs) → (c < 128) ⊎ (128 ≤ c) → bytes_eq (n ∷ ns) (take (suc (length ns)) (encode c ++ encodes cs)) ≡ bytes_eq (n ∷ ns) (take (suc (length ns)) (c ∷ cs))
    go same (inl l) = ap (λ xs. bytes_eq (n ∷ ns) (take (suc (length ns)) (xs ++ encodes cs))) (one c l) ∙ ap (λ b. nat_eq n c && b) same
    go same (inr l) =
        let k : (a : ℕ) × (more : List ℕ) × (encode c ≡ a ∷ more) × (128 ≤ a) = lead c l in
        let low = head_ascii n ns h in
        let e : nat_eq n k.0 ≡ false = differ n k.0 low k.3 in
        let f : nat_eq n c ≡ false = differ n c low l in
        ap (λ xs. bytes_eq (n ∷ ns) (take (suc (length ns)) (xs ++ encodes cs))) k.2 ∙ (ap (λ b. b && bytes_eq ns (take (length ns) (k.1 ++ encodes cs))) e ∙ sym (ap (λ b. b && bytes_eq ns (take (length ns) cs)) f))

-- so the class of a method may be told by its UTF-8

requests_same : (cs : List ℕ) → own_request (encode_utf8_all cs) ≡ own_request cs
unfolding own_request
requests_same cs = rw (
  ascii_encoded cs (codes "initialize") refl,
  ascii_encoded cs (codes "shutdown") refl,
  ascii_encoded cs (codes "lspmux/open") refl,
  ascii_encoded cs (codes "lspmux/status") refl,
  ascii_encoded cs (codes "lspmux/stop") refl,
) refl

notifications_same : (cs : List ℕ) → own_notification (encode_utf8_all cs) ≡ own_notification cs
unfolding own_notification
notifications_same cs = rw (
  ascii_encoded cs (codes "initialized") refl,
  ascii_encoded cs (codes "exit") refl,
  ascii_encoded cs (codes "textDocument/didOpen") refl,
  ascii_encoded cs (codes "textDocument/didChange") refl,
  ascii_encoded cs (codes "textDocument/didClose") refl,
  ascii_encoded cs (codes "$/cancelRequest") refl,
  ascii_encoded cs (codes "window/workDoneProgress/cancel") refl,
  ascii_encoded cs (codes "workspace/didChangeConfiguration") refl,
) refl

nowhere_same : (cs : List ℕ) → goes_nowhere (encode_utf8_all cs) ≡ goes_nowhere cs
unfolding goes_nowhere
nowhere_same cs = rw (
  ascii_encoded cs (codes "$/setTrace") refl,
  ascii_encoded cs (codes "$/progress") refl,
  ascii_encoded cs (codes "notebookDocument/didOpen") refl,
  ascii_encoded cs (codes "notebookDocument/didChange") refl,
  ascii_encoded cs (codes "notebookDocument/didSave") refl,
  ascii_encoded cs (codes "notebookDocument/didClose") refl,
  ascii_encoded cs (codes "workspace/didChangeWorkspaceFolders") refl,
) refl

pub notice_encoded : (cs : List ℕ) → editor_notification (encode_utf8_all cs) ≡ editor_notification cs
unfolding editor_notification
notice_encoded cs = ap₂ (λ o w. unwrap_or o w) (notifications_same cs) (ap₂ (λ b o. if b || is_some o then Dropped else Other) (nowhere_same cs) (requests_same cs))

pub dollar_encoded : (cs : List ℕ) → is_dollar (encode_utf8_all cs) ≡ is_dollar cs
dollar_encoded cs = rw (
  ascii_encoded cs (codes "$/cancelRequest") refl,
  ascii_encoded cs (codes "$/setTrace") refl,
  ascii_encoded cs (codes "$/progress") refl,
) refl

pub class_encoded : (cs : List ℕ) → editor_request (encode_utf8_all cs) ≡ editor_request cs
unfolding editor_request
class_encoded cs = ap₂ (λ o w. unwrap_or o w) (requests_same cs) (ap₂ (λ o b. if is_some o || b then Wrong else Other) (notifications_same cs) (nowhere_same cs))

-- and that of a server's
refresh_same : (cs : List ℕ) → is_refresh (encode_utf8_all cs) ≡ is_refresh cs
unfolding is_refresh
refresh_same cs = rw (
  ascii_encoded cs (codes "workspace/codeLens/refresh") refl,
  ascii_encoded cs (codes "workspace/semanticTokens/refresh") refl,
  ascii_encoded cs (codes "workspace/inlayHint/refresh") refl,
  ascii_encoded cs (codes "workspace/inlineValue/refresh") refl,
  ascii_encoded cs (codes "workspace/diagnostic/refresh") refl,
) refl

focused_same : (cs : List ℕ) → is_focused (encode_utf8_all cs) ≡ is_focused cs
unfolding is_focused
focused_same cs = rw (
  ascii_encoded cs (codes "workspace/applyEdit") refl,
  ascii_encoded cs (codes "window/showMessageRequest") refl,
  ascii_encoded cs (codes "window/showDocument") refl,
) refl

pub asked_encoded : (cs : List ℕ) → server_request (encode_utf8_all cs) ≡ server_request cs
unfolding server_request
asked_encoded cs = rw (
  ascii_encoded cs (codes "client/registerCapability") refl,
  ascii_encoded cs (codes "client/unregisterCapability") refl,
  ascii_encoded cs (codes "window/workDoneProgress/create") refl,
  ascii_encoded cs (codes "workspace/workspaceFolders") refl,
  refresh_same cs,
  focused_same cs,
) refl

pub told_encoded : (cs : List ℕ) → server_notification (encode_utf8_all cs) ≡ server_notification cs
unfolding server_notification
told_encoded cs = rw (
  ascii_encoded cs (codes "$/progress") refl,
  ascii_encoded cs (codes "$/cancelRequest") refl,
  ascii_encoded cs (codes "textDocument/publishDiagnostics") refl,
) refl
