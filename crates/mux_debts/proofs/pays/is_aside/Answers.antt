-- Whether a request is none for a start, by its method.
use Rattle.std.proofs.Common.{◌||◌, ap, bytes_eq, codes, false, sym, ◌∙◌}
use Rattle.event_model.specs.Event.{requests}
use Rattle.lsp_method.specs.Class.{class_of}
use Rattle.lsp_method.specs.declared.variants.Origin.TheVariants.{Editor}
use Rattle.mux_turns.specs.group_facts.specs.mux_model.specs.Methods.{is_wrong}
use Rattle.mux_debts.proofs.Going.{any_first, any_fourth, any_last, any_second, any_third, on_first, on_second}
use Rattle.mux_debts.proofs.pays.is_aside.Goals as goal

pub returns-then-is_open : goal.returns-then-is_open
returns-then-is_open c = λ body method id params read says.
    let a = c.is_open.ensures body read ∙ ap (requests (codes "lspmux/open")) says in
    a ∙ any_first (bytes_eq (codes "lspmux/open") method) (bytes_eq (codes "lspmux/status") method) (bytes_eq (codes "lspmux/stop") method) (bytes_eq (codes "initialize") method) (is_wrong (class_of method Editor false)) (bytes_eq (codes "shutdown") method) (sym a ∙ c.if-is_open.true)

pub returns-then-is_status : goal.returns-then-is_status
returns-then-is_status c = λ body method id params read says.
    let a = c.is_open.ensures body read ∙ ap (requests (codes "lspmux/open")) says in
    let b = c.is_status.ensures body read ∙ ap (requests (codes "lspmux/status")) says in
    b ∙ any_second (bytes_eq (codes "lspmux/open") method) (bytes_eq (codes "lspmux/status") method) (bytes_eq (codes "lspmux/stop") method) (bytes_eq (codes "initialize") method) (is_wrong (class_of method Editor false)) (bytes_eq (codes "shutdown") method) (sym a ∙ c.if-is_open.false) (sym b ∙ c.if-is_status.true)

pub returns-then-is_stop : goal.returns-then-is_stop
returns-then-is_stop c = λ body method id params read says.
    let a = c.is_open.ensures body read ∙ ap (requests (codes "lspmux/open")) says in
    let b = c.is_status.ensures body read ∙ ap (requests (codes "lspmux/status")) says in
    let t = c.is_stop.ensures body read ∙ ap (requests (codes "lspmux/stop")) says in
    t ∙ any_third (bytes_eq (codes "lspmux/open") method) (bytes_eq (codes "lspmux/status") method) (bytes_eq (codes "lspmux/stop") method) (bytes_eq (codes "initialize") method) (is_wrong (class_of method Editor false)) (bytes_eq (codes "shutdown") method) (sym a ∙ c.if-is_open.false) (sym b ∙ c.if-is_status.false) (sym t ∙ c.if-is_stop.true)

pub returns-then-is_initialize : goal.returns-then-is_initialize
returns-then-is_initialize c = λ body method id params read says.
    let a = c.is_open.ensures body read ∙ ap (requests (codes "lspmux/open")) says in
    let b = c.is_status.ensures body read ∙ ap (requests (codes "lspmux/status")) says in
    let t = c.is_stop.ensures body read ∙ ap (requests (codes "lspmux/stop")) says in
    let d = c.is_initialize.ensures body read ∙ ap (requests (codes "initialize")) says in
    d ∙ any_fourth (bytes_eq (codes "lspmux/open") method) (bytes_eq (codes "lspmux/status") method) (bytes_eq (codes "lspmux/stop") method) (bytes_eq (codes "initialize") method) (is_wrong (class_of method Editor false)) (bytes_eq (codes "shutdown") method) (sym a ∙ c.if-is_open.false) (sym b ∙ c.if-is_status.false) (sym t ∙ c.if-is_stop.false) (sym d ∙ c.if-is_initialize.true)

pub returns-then-is_wrong : goal.returns-then-is_wrong
returns-then-is_wrong c = λ body method id params read says.
    let a = c.is_open.ensures body read ∙ ap (requests (codes "lspmux/open")) says in
    let b = c.is_status.ensures body read ∙ ap (requests (codes "lspmux/status")) says in
    let t = c.is_stop.ensures body read ∙ ap (requests (codes "lspmux/stop")) says in
    let d = c.is_initialize.ensures body read ∙ ap (requests (codes "initialize")) says in
    let w = c.is_wrong.ensures body method id params read says in
    w ∙ (on_first (is_wrong (class_of method Editor false)) (bytes_eq (codes "shutdown") method) (sym w ∙ c.if-is_wrong.true) ∙ any_last (bytes_eq (codes "lspmux/open") method) (bytes_eq (codes "lspmux/status") method) (bytes_eq (codes "lspmux/stop") method) (bytes_eq (codes "initialize") method) (is_wrong (class_of method Editor false)) (bytes_eq (codes "shutdown") method) (sym a ∙ c.if-is_open.false) (sym b ∙ c.if-is_status.false) (sym t ∙ c.if-is_stop.false) (sym d ∙ c.if-is_initialize.false))

pub returns-else-is_wrong : goal.returns-else-is_wrong
returns-else-is_wrong c = λ body method id params read says.
    let a = c.is_open.ensures body read ∙ ap (requests (codes "lspmux/open")) says in
    let b = c.is_status.ensures body read ∙ ap (requests (codes "lspmux/status")) says in
    let t = c.is_stop.ensures body read ∙ ap (requests (codes "lspmux/stop")) says in
    let d = c.is_initialize.ensures body read ∙ ap (requests (codes "initialize")) says in
    let w = c.is_wrong.ensures body method id params read says in
    c.is_shutdown.ensures body method id params read says ∙ (on_second (is_wrong (class_of method Editor false)) (bytes_eq (codes "shutdown") method) (sym w ∙ c.if-is_wrong.false) ∙ any_last (bytes_eq (codes "lspmux/open") method) (bytes_eq (codes "lspmux/status") method) (bytes_eq (codes "lspmux/stop") method) (bytes_eq (codes "initialize") method) (is_wrong (class_of method Editor false)) (bytes_eq (codes "shutdown") method) (sym a ∙ c.if-is_open.false) (sym b ∙ c.if-is_status.false) (sym t ∙ c.if-is_stop.false) (sym d ∙ c.if-is_initialize.false))
