-- The jobs of a site: those of its list, and the plain jobs after these.
use Rattle.std.proofs.Common.{◌≡◌, ℕ, ◌+◌, ◌-◌, ◌<◌, ◌≤◌, List, length, length-append, map, get_or, ◌∙◌, arith}
use Rattle.std.specs.List.{range_with_len}
use Rattle.std.proofs.lemmas.List.{get_or-append_right, length-map}
use Rattle.std.proofs.lemmas.List.FromFn.{get_or-map-range_with_len, length-map-range_with_len}
use Rattle.dine_graph.specs.declared.plans.Job.{Job}
use Rattle.dine_graph.specs.Plan.{SeenJob}
use Rattle.dine_graph.specs.Job.{seen_job, plain_job}
use Rattle.dine_graph.specs.Site.{seen_jobs}

pub length-seen_jobs : (jobs : List Job) (n : ℕ) → length (seen_jobs jobs n) ≡ length jobs + n
length-seen_jobs jobs n =
    let plain = map plain_job (range_with_len (length jobs + 1) n) in
    let all : length (seen_jobs jobs n) ≡ length (map seen_job jobs) + length plain = length-append (map seen_job jobs) plain in
    let listed : length (map seen_job jobs) ≡ length jobs = length-map jobs seen_job in
    let after : length plain ≡ n = length-map-range_with_len plain_job (length jobs + 1) n in
    omega arith

-- a job after those of the list
pub plain_at : (jobs : List Job) (n k : ℕ) (d : SeenJob) → length jobs < k → k ≤ length jobs + n → get_or (seen_jobs jobs n) (k - 1) d ≡ plain_job k
plain_at jobs n k d after within =
    get_or-append_right (map seen_job jobs) (map plain_job (range_with_len (length jobs + 1) n)) (length jobs) (k - 1) d (length-map jobs seen_job) (omega arith)
    ∙ get_or-map-range_with_len plain_job (length jobs + 1) n (k - 1 - length jobs) k d (omega arith) (omega arith)
