use Rattle.dine_threads.proofs.starts.fn.start_thread.run+FnOnce.call_once.Goals as goal

pub run-requires : goal.run-requires
run-requires g c =
    let own = c.requires.1.1.1.1.1.1 in
    let sends = own.1 in
    (sends.0, (sends.1, (sends.2, (sends.3, (sends.4, (sends.5, own.0))))))
