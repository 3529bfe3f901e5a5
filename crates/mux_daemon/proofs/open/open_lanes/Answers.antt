use Rattle.std.proofs.Common.{rules, ◌≡◌, ◌+◌, [], length}
use Rattle.mux_daemon.specs.Opens.{AreOpened, Opened}
use Rattle.mux_daemon.proofs.Opening.{all_opened}
use Rattle.mux_daemon.proofs.Serving.{clock_opened, over_opened}
use Rattle.mux_daemon.proofs.open.open_lanes.Goals as goal

pub returns-clause-opened : goal.returns-clause-opened
returns-clause-opened g c =
    let ports : c.in-Some.ports ≡ length c.open_jobs.new.jobs.items = search rules in
    let first : AreOpened c.in-Some.ports [] c.open_jobs.new.hubs.items c.open_jobs.new.jobs.items = search rules in
    let editors : c.in-Some-checked_add.editors ≡ c.in-Some.ports + 1 = search rules in
    let own : Opened c.open_jobs.new.hubs.items c.open_job.new.hubs.items c.open_job.new.job = search rules in
    let servers : c.in-Some-open_jobs.servers ≡ length c.open_jobs-2.new.jobs.items = search rules in
    let last : Opened c.open_jobs-2.new.hubs.items c.open_job-2.new.hubs.items c.open_job-2.new.job = search rules in
    all_opened record { ports = c.open_jobs.new.jobs; own = c.open_job.new.job; berths = c.open_jobs-2.new.jobs; clock = c.open_job-2.new.job } record { ends = c.open_job-2.new.hubs; editors = c.in-Some-checked_add.editors; servers = c.in-Some-open_jobs.servers }
    c.in-Some.ports c.open_jobs.new.hubs.items c.open_job.new.hubs.items c.open_jobs-2.new.hubs.items first ports editors own c.in-Some-open_jobs.ensures.opened.1 servers last

pub returns-clause-over : goal.returns-clause-over
returns-clause-over g c =
    over_opened record { ports = c.open_jobs.new.jobs; own = c.open_job.new.job; berths = c.open_jobs-2.new.jobs; clock = c.open_job-2.new.job } record { ends = c.open_job-2.new.hubs; editors = c.in-Some-checked_add.editors; servers = c.in-Some-open_jobs.servers }
    (returns-clause-opened g c)

pub returns-clause-clock : goal.returns-clause-clock
returns-clause-clock g c =
    clock_opened record { ports = c.open_jobs.new.jobs; own = c.open_job.new.job; berths = c.open_jobs-2.new.jobs; clock = c.open_job-2.new.job } record { ends = c.open_job-2.new.hubs; editors = c.in-Some-checked_add.editors; servers = c.in-Some-open_jobs.servers }
    (returns-clause-opened g c)
