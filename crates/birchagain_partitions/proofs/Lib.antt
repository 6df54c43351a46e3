mod MergeSteps
